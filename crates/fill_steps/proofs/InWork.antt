-- Places of the work array: where a heading leads from one, and a place by another name.
use Rattle.std.proofs.Common.{◌≡◌, ℕ, ◌<◌, List, length, subst, arith}
use Rattle.steps.proofs.Headings.{changes_of}
use Rattle.fill_steps.specs.inner.Work.{at, OffBorder, target}

-- a heading leads from a place that is not on the border to one of the array
pub in_work : (x : List ℕ) (p h : ℕ) → h < 8 → OffBorder x p → target p h < length x
in_work x p h b inside = omega (arith, inside, changes_of h b)

-- a place is open by any name
pub also : (floor : List ℕ) (y z : ℕ) → y ≡ z → 0 < at floor y → 0 < at floor z
also floor y z e o = subst (λ (i : ℕ). 0 < at floor i) e o
