-- `Floor::blocked_at` meets its contract: the bit that is read of the cell's byte is the cell's (`cell_bit`).
use Rattle.floor.specs.Lent.{floor_map}
use Rattle.floor.proofs.Reading.{cell_bit}
use Rattle.floor.proofs.accepted.Floor.blocked_at.Goals as goal

pub returns : goal.returns
returns c = rw c.byte_at.ensures (cell_bit (floor_map c.args.self.now) c.args.column c.args.row)
