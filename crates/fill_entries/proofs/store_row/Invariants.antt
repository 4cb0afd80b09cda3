-- `fill_entries::store_row` meets its contract. The invariant: the row's entries before this column are written.
use Prim.Native.Nat.{◌*◌}
use Rattle.table_theory.specs.inner.Written.{Written}
use Rattle.fill_entries.specs.inner.Entries.{entry_in}
use Rattle.fill_entries.proofs.store_row.Given as goal

abbrev pub invariant-loop-column : goal.invariant-loop-column
invariant-loop-column l = Written (entry_in l.work l.row) (l.row * l.width) l.column l.initial.table l.table
