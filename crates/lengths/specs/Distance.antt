-- REFERENCE, "Distances": the nearest whole number of centimetres.
use Rattle.std.specs.Prelude.{◌≡◌, ℕ, ◌+◌, ◌-◌, ◌*◌, ◌<◌}
use Rattle.lengths.specs.declared.Length.{Length}

-- n is the whole number nearest to m√2: m√2 lies between n − ½ and n + ½, said over whole numbers
pub record Nearest (m n : ℕ) : Type 0 where
  pub above : 8 * (m * m) < (2 * n + 1) * (2 * n + 1)
  pub below : 0 < n → (2 * n - 1) * (2 * n - 1) < 8 * (m * m)

-- n is the distance of a length in cells of this size: whole for the straight steps, and rounded once for all diagonal ones together
pub record Spoken (size : ℕ) (l : Length) (n : ℕ) : Type 0 where
  pub part : ℕ
  pub nearest : Nearest (size * l.diagonal) part
  pub sum : n ≡ size * l.straight + part
