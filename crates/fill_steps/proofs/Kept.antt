-- What the steps out of a cell need, and what they keep, heading after heading.
use Rattle.std.proofs.Common.{◌≡◌, ℕ, ◌*◌, ◌<◌, ◌≤◌, List}
use Rattle.fill_steps.specs.inner.Work.{highest, at, target}
use Rattle.fill_steps.specs.inner.Band.{Band, Underway}
use Rattle.fill_steps.specs.inner.Taken.{Masks, Offered, This}

-- the cell at p may take its steps in this band
pub record MayStep (w : Band) (x q : List ℕ) (t p : ℕ) : Type 0 where
  pub going : Underway w x q t
  pub small : w.limit ≤ highest
  pub cell : This x w.limit p

-- the cell at p, which has the number v, has taken its step north, and north is the mask of the cell there
pub record NorthTaken (w : Band) (x q : List ℕ) (t p v north : ℕ) : Type 0 where
  pub ready : MayStep w x q t p
  pub number : at x p ≡ v
  pub mask : Masks (at w.floor (target p 0)) north

-- then a number of rounds followed, each of a straight step and the diagonal one before it, and side is the mask of the
-- cell that the last straight heading leads to
pub record Rounds (p v north side n t : ℕ) (x₀ q₀ x q : List ℕ) (t' : ℕ) : Type 0 where
  pub keeps : (w : Band) → NorthTaken w x₀ q₀ t p v north → Offered w (λ j. (0 < j) × (j ≤ 2 * n)) p x₀ q₀ x q t'
  pub behind : (w : Band) → NorthTaken w x₀ q₀ t p v north → n < 4 → Masks (at w.floor (target p (2 * n))) side
