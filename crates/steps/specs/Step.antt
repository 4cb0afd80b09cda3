-- REFERENCE, "Headings and steps": a step, in one statement for all eight headings.
use Rattle.std.specs.Prelude.{◌≡◌, refl, ℕ, zero, suc, ◌+◌, ◌%◌, ◌/◌, ◌<◌}
use Rattle.lengths.specs.Order.{steps}
use Rattle.floor.specs.Floor.{Map, Open}
use Rattle.steps.specs.Heading.{change_of, by_parity, weight}
use Rattle.steps.specs.Way.{Graph}

-- from a by a change of one less than k to b
pub record Moved (k a b : ℕ) : Type 0 where
  pub sum : a + k ≡ b + 1

-- from (c, r) by heading h to (c', r'): both ends are open, and so are (c, r') and (c', r), the two cells beside a
-- diagonal step; of a straight step these two are its ends
pub record Step (Open : ℕ → ℕ → Type 0) (h c r c' r' : ℕ) : Type 0 where
  pub heading : h < 8
  pub column : Moved (change_of h).column c c'
  pub row : Moved (change_of h).row r r'
  pub from : Open c r
  pub to : Open c' r'
  pub side : Open c r'
  pub other : Open c' r

pub one_step : (n : ℕ) → steps (by_parity n) ≡ 1
one_step zero = refl
one_step (suc n) = refl

-- the steps of a floor of this width, whose open cells are given; a cell's column and row are its number's remainder
-- and quotient by the width
abbrev pub grid_steps : ℕ → (ℕ → ℕ → Type 0) → Graph
grid_steps width Open = record {
  Step = λ h x y. Step Open h (x % width) (x / width) (y % width) (y / width);
  weight = weight;
  one = λ h. one_step (h % 2);
}

-- the permitted steps of a floor
abbrev pub steps_of : Map → Graph
steps_of m = grid_steps m.width (Open m)
