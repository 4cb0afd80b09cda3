-- Counting the cells that differ meets its contract. The invariant: of the columns passed, so many differ.
use mathlib.Core.Path.{◌≡◌}
use Rattle.check_rows.specs.inner.Window.{differing}
use Rattle.check_rows.proofs.window.Window.differing_in.Given as goal

abbrev pub invariant-loop-column : goal.invariant-loop-column
invariant-loop-column l = l.count ≡ differing l.self.numbers l.row.goal l.row.first l.column
