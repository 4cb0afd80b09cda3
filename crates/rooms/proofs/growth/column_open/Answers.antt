-- `rooms::growth::column_open` meets its contract: the loop stops at a cell that is not open, or has passed all.
use Rattle.std.proofs.Common.{◌∙◌, sym, arith}
use Rattle.floor.specs.Floor.{open?}
use Rattle.floor.specs.Lent.{floor_map}
use Rattle.rooms.specs.Room.{column_open}
use Rattle.rooms.proofs.Running.{part_passes, part_fails}
use Rattle.rooms.proofs.growth.column_open.Goals as goal

pub returns-then-not-is_open : goal.returns-then-not-is_open
unfolding column_open
returns-then-not-is_open c =
    sym (part_fails (open? (floor_map c.args.floor.now) c.args.column) _ _ c.loop-row.row c.loop-row.auto.row (omega arith) (sym c.is_open.ensures ∙ c.if-not-is_open.true))

pub returns : goal.returns
unfolding column_open
returns c = sym (part_passes (open? (floor_map c.args.floor.now) c.args.column) _ _ (λ k p q. c.loop-row.invariant k p (omega arith)))
