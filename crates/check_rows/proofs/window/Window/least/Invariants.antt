-- The least that the headings offer meets its contract. The invariant: so far it is the least of the start and what the
-- headings passed offer.
use mathlib.Core.Path.{◌≡◌}
use Rattle.check_rows.specs.inner.Window.{least_in}
use Rattle.check_rows.proofs.window.Window.least.Given as goal

abbrev pub invariant-loop-number : goal.invariant-loop-number
invariant-loop-number l = l.least ≡ least_in l.self.numbers l.column l.start l.number
