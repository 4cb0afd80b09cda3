-- `fill_load::load_row` meets its contract. The invariant: the row's first k bytes are loaded. What is left of the row is
-- a part of a byte, or nothing.
use Prim.Native.Nat.{◌*◌}
use Rattle.floor.specs.Lent.{floor_map}
use Rattle.fill_load.proofs.Kept.{CellsLoaded}
use Rattle.fill_load.proofs.load_row.Given as goal

abbrev pub invariant-loop-k : goal.invariant-loop-k
invariant-loop-k l = CellsLoaded (floor_map l.floor) l.initial.work (8 * l.k) l.row l.work
