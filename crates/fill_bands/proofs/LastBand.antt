-- When no cell is left, all steps were taken, and the array is solved.
use Rattle.std.proofs.Common.{◌≡◌, ◌⊎◌, inl, inr, List, ℕ, ◌+◌, ◌≤◌, ◌<◌, arith}
use native.Mathlib.Decide.{dec_le, ℕ_discrete}
use Rattle.fill_steps.specs.inner.Work.{unreached, span, goal_number, highest, at}
use Rattle.fill_steps.specs.inner.Band.{Support}
use Rattle.fill_bands.specs.inner.Solved.{ReachedBy, Solved}
use Rattle.fill_bands.proofs.Kept.{the, Between}

module _ (floor : List ℕ) (mid fresh tail limit : ℕ) (x q : List ℕ) (g : Between floor mid fresh tail limit x q) (empty : tail ≤ mid) where
  -- all that was reached lies before the band
  low : (z : ℕ) → 0 < at x z → at x z < unreached → at x z + span < limit
  low z o f = by (dec_le limit (at x z + span))
    where
      by : Dec (limit ≤ at x z + span) → at x z + span < limit
      by (yes n) =
          let i = g.in_due z (record { reached = record { free = o; found = f }; after = n }) in
          absurd (omega (arith, i.after, i.before))
      by (no n) = omega arith

  fits : limit ≤ highest
  fits = omega (arith, g.count, g.going.room, g.order)

  pub solved : Solved floor x
  solved = record {
    cells = g.going.cells;
    kinds = g.going.kinds;
    free = g.going.free;
    shut = g.going.shut;
    start = g.going.start;
    below = λ z f. by z f (ℕ_discrete (at x z) 0);
    support = λ z o f. found z (g.going.support z o f);
    relaxed = λ h a b s f. g.going.relaxed h a b s (low a (g.going.free a s.from) f);
  }
    where
      by : (z : ℕ) → at x z < unreached → Dec (at x z ≡ 0) → at x z < highest
      by z f (yes e) = omega arith
      by z f (no e) = omega (arith, low z (omega arith) f, fits)

      found : (z : ℕ) → (at floor z ≡ goal_number) ⊎ Support (the floor x tail limit) x z (at x z) → (at floor z ≡ goal_number) ⊎ ReachedBy floor x z (at x z)
      found z (inl e) = inl e
      found z (inr u) = inr (record { heading = u.heading; cell = u.cell; step = u.step; found = omega (arith, u.near, fits); sum = u.sum })
