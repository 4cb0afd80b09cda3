-- The pass over the rows meets its contract. The invariant: the cells of the rows passed are right, and the window shows
-- the row above and the row.
use Rattle.floor.specs.Lent.{floor_map}
use Rattle.check_table.proofs.RowByRow.{BeforeRow}
use Rattle.check_table.proofs.first_wrong.Given as goal

abbrev pub invariant-loop-row : goal.invariant-loop-row
invariant-loop-row l = BeforeRow (floor_map l.goal.floor) l.table l.goal.cell l.row l.window.numbers
