-- A list into which a loop has written numbers, one after the other.
use Rattle.std.specs.Prelude.{◌≡◌, ◌⊎◌, List, ℕ, ◌+◌, ◌≤◌, ◌<◌, length, get_or}

-- y is x with count numbers written from a place on
pub record Written (number : ℕ → ℕ) (from count : ℕ) (x y : List ℕ) : Type 0 where
  pub size : length y ≡ length x
  pub inside : (i : ℕ) → i < count → get_or y (from + i) 0 ≡ number i
  pub outside : (z : ℕ) → (z < from) ⊎ (from + count ≤ z) → get_or y z 0 ≡ get_or x z 0
