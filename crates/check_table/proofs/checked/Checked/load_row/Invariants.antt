-- A row's numbers meet their contract. The invariant: the columns passed are written.
use mathlib.Core.Path.{◌≡◌}
use Prim.Native.Nat.{ℕ, ◌<◌}
use lib.ListN.{get_or}
use Rattle.floor.specs.Lent.{floor_map}
use Rattle.check_table.specs.inner.Rows.{in_row}
use Rattle.check_table.proofs.checked.Checked.load_row.Given as goal

abbrev pub invariant-loop-column : goal.invariant-loop-column
invariant-loop-column l =
    (k : ℕ) → k < l.column → get_or l.numbers k 0 ≡ in_row (floor_map l.self.floor) l.self.entries.now l.row k
