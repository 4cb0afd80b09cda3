-- The window on the floor: three rows of numbers, each 130 wide, with a border at each end of a row; what a cell of its
-- middle row is offered, and whether it differs.
use Rattle.std.specs.Prelude.{◌≡◌, ◌⊎◌, Bool, not, List, ℕ, zero, suc, ◌+◌, ◌*◌, ◌/◌, ◌%◌, min, ◌≤◌, ◌<◌, eqb, length, get_or}
use Rattle.answers.specs.Bools.{pick, both}
use Rattle.lengths.specs.inner.Keys.{key}
use Rattle.floor.specs.Floor.{Map}
use Rattle.steps.specs.Heading.{change_of, weight}
use Rattle.check_rows.specs.inner.Level.{none, wall, number_at}

-- no number is above that of a blocked cell
pub record LowNumbers (x : List ℕ) : Type 0 where
  pub low : (z : ℕ) → get_or x z 0 ≤ wall + 1

-- nothing but walls
pub record Walled (x : List ℕ) : Type 0 where
  pub size : length x ≡ 390
  pub walls : (z : ℕ) → z < 390 → get_or x z 0 ≡ wall

-- the number at a row and a column, the columns counted from the border on
abbrev pub at : List ℕ → (row column : ℕ) → ℕ
at x row column = get_or x (row * 130 + column) 0

-- what a cell beside a step adds: nothing if it is open
abbrev pub shut_of : ℕ → ℕ
shut_of v = v / wall * wall

-- what a step offers the cell at column c of the middle row: the number where it leads, its key, and what the two cells
-- beside add
unfoldable pub offered_in : List ℕ → (c across down key : ℕ) → ℕ
offered_in x c across down key = at x down (c + across) + key + shut_of (at x down (c + 1)) + shut_of (at x 1 (c + across))

-- what a heading offers it
abbrev pub offer_in : List ℕ → ℕ → ℕ → ℕ
offer_in x c h = offered_in x c (change_of h).column (change_of h).row (key (weight h))

-- the least of the start and what the headings below k offer
unfoldable pub least_in : List ℕ → ℕ → ℕ → ℕ → ℕ
least_in x c start zero = start
least_in x c start (suc k) = min (least_in x c start k) (offer_in x c k)

-- whether the number at column c of the middle row is neither the least nor a wall
unfoldable pub differs_in : List ℕ → ℕ → ℕ → Bool
differs_in x c start = both (not (eqb (at x 1 (c + 1)) (least_in x c start 8))) (not (eqb (at x 1 (c + 1)) wall))

-- the goal's cell starts at 0, any other at the mark
abbrev pub start_of : ℕ → ℕ → ℕ
start_of goal cell = pick (eqb cell goal) 0 none

-- the same of a column of the window's middle row, which is a row of the floor with this first cell
abbrev pub differs_at : List ℕ → (goal first : ℕ) → ℕ → Bool
differs_at x goal first c = differs_in x c (start_of goal (first + c))

-- how many of the first columns differ
unfoldable pub differing : List ℕ → (goal first : ℕ) → ℕ → ℕ
differing x goal first zero = 0
differing x goal first (suc c) = differing x goal first c + pick (differs_at x goal first c) 1 0

-- the first count rows of the window show the floor from this row on, the rows counted from one further; what stands
-- beside the floor is a wall in all three
pub record Showing (m : Map) (t : List ℕ) (row count : ℕ) (x : List ℕ) : Type 0 where
  pub size : length x ≡ 390
  pub numbers : (z : ℕ) → z < 390 → z < count * 130 → get_or x z 0 ≡ number_at m t (z % 130) (row + z / 130)
  pub border : (z : ℕ) → z < 390 → (z % 130 ≡ 0) ⊎ (m.width < z % 130) → get_or x z 0 ≡ wall
