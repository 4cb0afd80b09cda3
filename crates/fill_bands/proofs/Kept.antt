-- What the passes keep.
use Rattle.std.proofs.Common.{◌≡◌, ◌⊎◌, List, ℕ, ◌+◌, ◌-◌, ◌*◌, ◌≤◌, ◌<◌, arith, get_or}
use Rattle.fill_steps.specs.inner.Work.{unreached, span, goal_number, at}
use Rattle.fill_steps.specs.inner.Band.{Band, Support, Listed, Reached, Underway}
use Rattle.fill_bands.specs.inner.Pass.{Due}
use Rattle.fill_bands.specs.inner.Solved.{Loaded, Goals, GoalsDone}

-- a larger part of the queue
pub wider : (q : List ℕ) (low high low' high' z : ℕ) → low' ≤ low → high ≤ high' → Listed q low high z → Listed q low' high' z
wider q low high low' high' z m n l =
    record { index = l.index; here = l.here; after = omega (arith, l.after); before = omega (arith, l.before) }

-- a band of this floor that begins now
abbrev pub the : List ℕ → List ℕ → (end limit : ℕ) → Band
the floor x end limit = record { floor = floor; before = x; end = end; limit = limit }

-- between bands: the next one ends at limit
pub record Between (floor : List ℕ) (mid fresh tail limit : ℕ) (x q : List ℕ) : Type 0 where
  pub going : Underway (the floor x tail limit) x q tail
  pub order : (mid ≤ fresh) × (fresh ≤ tail)
  -- everything reached lies below the end of the band after this one
  pub below : (z : ℕ) → at x z < unreached → at x z < limit + span
  -- every reached cell but the goal was reached by a step out of a cell before this band
  pub support : (z : ℕ) → Reached x z → (at floor z ≡ goal_number) ⊎ Support (the floor x tail (limit - span)) x z (at x z)
  -- q[mid..tail] are the cells that have not taken their steps, and they alone
  pub due : (i : ℕ) → mid ≤ i → i < tail → Due x limit (get_or q i 0)
  pub in_due : (z : ℕ) → Due x limit z → Listed q mid tail z
  -- and of those q[mid..fresh], which waited in the band before, do not wait again
  pub waited : (i : ℕ) → mid ≤ i → i < fresh → at x (get_or q i 0) < limit
  -- the goal lies before the band's end
  pub start : goal_number < limit
  -- no band was empty
  pub count : limit ≤ span * (mid + 3)

-- while bands are passed, of the floor that was loaded before the goal's places took their steps
pub record Bands (goals : List ℕ) (mid fresh limit t : ℕ) (x q x' q' : List ℕ) (t' : ℕ) : Type 0 where
  pub between : (x₀ q₀ : List ℕ) → Loaded x₀ q₀ → Goals x₀ goals → GoalsDone goals 0 x₀ q₀ x q t → Between x₀ mid fresh t' limit x' q'
