-- `rooms::growth::column_open` meets its contract. The loop's invariant: every row so far is open.
use Rattle.floor.specs.Floor.{open?}
use Rattle.floor.specs.Lent.{floor_map}
use Rattle.rooms.proofs.Running.{AllPass}
use Rattle.rooms.proofs.growth.column_open.Given as goal

abbrev pub invariant-loop-row : goal.invariant-loop-row
invariant-loop-row l = AllPass (open? (floor_map l.floor) l.column) l.top l.row
