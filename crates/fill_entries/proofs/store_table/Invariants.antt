-- `fill_entries::store_table` meets its contract. The invariant: the entries of the rows before this one are written.
use Prim.Native.Nat.{◌*◌}
use Rattle.table_theory.specs.inner.Written.{Written}
use Rattle.fill_entries.specs.inner.Entries.{entry_of_cell}
use Rattle.fill_entries.proofs.store_table.Given as goal

abbrev pub invariant-loop-row : goal.invariant-loop-row
invariant-loop-row l = Written (entry_of_cell l.width l.work) 0 (l.row * l.width) l.initial.table l.table
