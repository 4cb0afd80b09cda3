-- `fill_bands::ready_steps` meets its contract. The invariant: the cells before i have taken their steps, in every band
-- whose cells they are.
use Rattle.fill_steps.specs.inner.Band.{Band}
use Rattle.fill_steps.specs.inner.Spreads.{Moved}
use Rattle.fill_bands.specs.inner.Pass.{StepsReady, StepsDone}
use Rattle.fill_bands.proofs.ready_steps.Given as goal

abbrev pub invariant-loop-i : goal.invariant-loop-i
invariant-loop-i l =
    Moved l.initial.spread l.spread (λ t x q x' q' t'. (w : Band) → StepsReady w x q l.mid l.top t → StepsDone w q l.mid l.i x q x' q' t')
