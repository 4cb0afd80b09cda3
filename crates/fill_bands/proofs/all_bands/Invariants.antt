-- `fill_bands::all_bands` meets its contract. The invariant: what holds between bands, of the floor that was loaded before
-- the goal's places took their steps. No band is empty, so there are no more bands than cells.
use Rattle.std.proofs.Common.{◌-◌}
use Rattle.fill_steps.specs.inner.Work.{largest}
use Rattle.fill_steps.specs.inner.Spreads.{Moved}
use Rattle.fill_bands.proofs.Kept.{Bands}
use Rattle.fill_bands.proofs.all_bands.Given as goal

abbrev pub invariant-loop-mid : goal.invariant-loop-mid
invariant-loop-mid l = Moved l.initial.spread l.spread (Bands l.goals l.mid l.fresh l.limit)

abbrev pub decreases-loop-mid : goal.decreases-loop-mid
decreases-loop-mid l = largest - l.mid
