-- `fill_bands::goal_steps` meets its contract. The invariant: the goal's places before i have taken their steps.
use Rattle.fill_steps.specs.inner.Spreads.{Moved}
use Rattle.fill_bands.specs.inner.Pass.{StepsDone}
use Rattle.fill_bands.specs.inner.Solved.{goal_band}
use Rattle.fill_bands.proofs.goal_steps.Given as goal

abbrev pub invariant-loop-from : goal.invariant-loop-from
invariant-loop-from l = Moved l.initial.spread l.spread (λ t x. StepsDone (goal_band x) l.goals 0 l.from-index x)
