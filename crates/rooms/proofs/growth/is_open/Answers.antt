-- `rooms::growth::is_open` meets its contract: on the floor, a cell is open exactly where it is not blocked.
use mathlib.Core.Path.{ap}
use mathlib.Core.Bool.{not}
use borrow.Author.Tests.{lt-ltb}
use Rattle.floor.specs.Floor.{open?}
use Rattle.rooms.proofs.growth.is_open.Goals as goal

pub returns : goal.returns
unfolding open?
returns c = simp (lt-ltb _ _ c.requires.0, lt-ltb _ _ c.requires.1) (ap not c.blocked_at.ensures)
