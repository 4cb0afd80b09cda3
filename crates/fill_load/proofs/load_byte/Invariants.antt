-- `fill_load::load_byte` meets its contract. The invariant: the cells of the byte's first i bits are loaded.
use Rattle.floor.specs.Lent.{floor_map}
use Rattle.fill_load.proofs.Kept.{BitsLoaded}
use Rattle.fill_load.proofs.load_byte.Given as goal

abbrev pub invariant-loop-i : goal.invariant-loop-i
invariant-loop-i l = BitsLoaded (floor_map l.floor) l.initial.work l.column l.row l.count l.i l.work
