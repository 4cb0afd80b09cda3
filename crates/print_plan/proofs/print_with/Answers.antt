-- `print_plan::print_with` meets its contract: line after line, while there is room for any line.
use mathlib.Core.Path.{refl}
use native.Mathlib.Omega.{arith}
use Rattle.print_plan.proofs.Going.{going_start, going_more, going_shown}
use Rattle.print_plan.proofs.print_with.Goals as goal

pub loop-next-init : goal.loop-next-init
loop-next-init c = record { lines = going_start _ _ _; no_more = omega arith }

pub loop-next-preserved : goal.loop-next-preserved
loop-next-preserved c =
    let free = c.if-room-lt-LINE_ROOM.false in
    record {
      lines = going_more _ _ _ _ _ _ c.requires c.loop-next.invariant.lines (omega arith) c.put_line.ensures;
      no_more = omega (arith, c.loop-next-test.true);
    }

pub returns-then-room-lt-LINE_ROOM-clause-shown : goal.returns-then-room-lt-LINE_ROOM-clause-shown
returns-then-room-lt-LINE_ROOM-clause-shown c =
    let full = c.if-room-lt-LINE_ROOM.true in
    going_shown _ _ _ _ _ c.requires c.loop-next.invariant.lines _ c.head_of-head.ensures _ refl refl (omega arith) (λ some. omega arith)

pub returns-clause-shown : goal.returns-clause-shown
returns-clause-shown c = going_shown _ _ _ _ _ c.requires c.loop-next.invariant.lines _ c.head_of-head.ensures _ refl (omega arith) (omega arith) (λ some. absurd (omega arith))
