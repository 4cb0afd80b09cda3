-- When all steps out of cells below a band's end were taken, the next band can begin: its end is one straight step
-- further.
use Rattle.std.proofs.Common.{◌≡◌, ◌⊎◌, inl, inr, List, ℕ, ◌+◌, ◌-◌, ◌≤◌, ◌<◌, arith}
use Rattle.fill_steps.specs.inner.Work.{span, goal_number, stepped, at, WorkStep}
use Rattle.fill_steps.specs.inner.Band.{Support, Reached, PastBand, Underway}
use Rattle.fill_bands.specs.inner.Pass.{Due}
use Rattle.fill_bands.proofs.Kept.{the}

module _ (floor : List ℕ) (x : List ℕ) (end limit : ℕ) (x' q' : List ℕ) (t : ℕ) (g : Underway (the floor x end limit) x' q' t) where
  -- what was reached by a step out of a settled cell was so, whatever the band's end
  again : (v z : ℕ) → limit ≤ v → Reached x' z → (at floor z ≡ goal_number) ⊎ Support (the floor x' t v) x' z (at x' z)
  again v z m r = by (g.support z r.free r.found)
    where
      by : (at floor z ≡ goal_number) ⊎ Support (the floor x end limit) x' z (at x' z) → (at floor z ≡ goal_number) ⊎ Support (the floor x' t v) x' z (at x' z)
      by (inl e) = inl e
      by (inr u) = inr (record { heading = u.heading; cell = u.cell; step = u.step; near = omega (arith, u.near); sum = u.sum })

  pub supported : (z : ℕ) → Reached x' z → (at floor z ≡ goal_number) ⊎ Support (the floor x' t (limit + span - span)) x' z (at x' z)
  supported z r = again (limit + span - span) z (omega arith) r

  -- what lies past the band is due in the next one
  pub next_due : (z : ℕ) → 0 < limit → PastBand (the floor x end limit) x' z → Due x' (limit + span) z
  next_due z m r = record { reached = record { free = omega (arith, r.after); found = r.found }; after = omega (arith, r.after) }

  pub onward : ((h a b : ℕ) → WorkStep floor h a b → at x' a < limit → at x' b ≤ stepped h (at x' a)) → Underway (the floor x' t (limit + span)) x' q' t
  onward relaxed = record {
    border = g.border;
    cells = g.cells;
    room = g.room;
    order = omega arith;
    kinds = g.kinds;
    free = g.free;
    shut = g.shut;
    start = g.start;
    below = λ z f. omega (arith, g.below z f);
    support = λ z o f. again (limit + span) z (omega arith) (record { free = o; found = f });
    relaxed = λ h a b u k. relaxed h a b u (omega arith);
    listed = λ z e f. absurd (omega arith);
    queued = λ i m n. absurd (omega arith);
  }
