-- `fill_load::load_map` meets its contract. The invariant: the rows before this one are loaded.
use Rattle.floor.specs.Lent.{floor_map}
use Rattle.fill_load.proofs.Kept.{RowsLoaded}
use Rattle.fill_load.proofs.load_map.Given as goal

abbrev pub invariant-loop-row : goal.invariant-loop-row
invariant-loop-row l = RowsLoaded (floor_map l.floor) l.initial.work l.row l.work
