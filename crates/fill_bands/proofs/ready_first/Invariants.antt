-- `fill_bands::ready_first` meets its contract. The invariant: the cells before i are parted.
use Rattle.std.proofs.Common.{◌≡◌}
use Rattle.fill_steps.specs.inner.Spreads.{Moved}
use Rattle.fill_bands.specs.inner.Pass.{Parted}
use Rattle.fill_bands.proofs.ready_first.Given as goal

abbrev pub invariant-loop-i : goal.invariant-loop-i
invariant-loop-i l =
    Moved l.initial.spread l.spread (λ t x q x' q' t'. (x' ≡ x) × (t' ≡ t) × Parted x l.limit l.fresh l.i q q' l.top)
