-- `fill_steps::Spread::cell_steps` meets its contract. The invariant: the steps with the headings before this one were
-- taken, and the mask that is kept is that of the side cell behind.
use Rattle.fill_steps.specs.inner.Spreads.{Moved}
use Rattle.fill_steps.proofs.Kept.{Rounds}
use Rattle.fill_steps.proofs.Spread.cell_steps.Given as goal

abbrev pub invariant-loop-diagonally : goal.invariant-loop-diagonally
invariant-loop-diagonally l = Moved l.initial.self l.self (Rounds l.from l.number l.north l.side l.diagonally-index)
