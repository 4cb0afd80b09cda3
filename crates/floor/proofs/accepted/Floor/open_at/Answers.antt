-- `Floor::open_at` meets its contract: each way out rewrites by the tests that led there.
use mathlib.Core.Path.{ap}
use mathlib.Core.Bool.{not}
use borrow.Author.Tests.{lt-ltb, le-ltb}
use Rattle.floor.specs.Floor.{open?}
use Rattle.floor.proofs.accepted.Floor.open_at.Goals as goal
use Rattle.floor.proofs.accepted.Floor.open_at.Goals.{else-column-self-via-then-column-self+else-row-self, else-column-self-via-else-column-self}

pub returns-then-row-self : goal.returns-then-row-self
unfolding open?
returns-then-row-self c =
    simp (lt-ltb _ _ c.if-column-self.true, lt-ltb _ _ c.if-row-self.true) (ap not c.blocked_at.ensures)

pub returns : goal.returns
unfolding open?
returns c =
    elim c.else-column-self.branch [
      | else-column-self-via-then-column-self+else-row-self w ↦ simp (lt-ltb _ _ w.if-column-self.true, le-ltb _ _ w.if-row-self.false)
      | else-column-self-via-else-column-self w ↦ simp (le-ltb _ _ w.if-column-self.false)
    ]
