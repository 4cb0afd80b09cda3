-- Where a heading leads from a cell, as the code reads it.
use Rattle.std.specs.Prelude.{Bool, Option, Some, None, ℕ, ◌+◌, ◌-◌, ◌%◌, ◌/◌, ltb}
use Rattle.answers.specs.Bools.{pick, both}
use Rattle.floor.specs.Floor.{Map, open?, cell_of}
use Rattle.steps.specs.Heading.{change_of}

-- whether a cell is open, its column and row counted from one further, so that a change of −1 stays a whole number
unfoldable pub open_past : Map → ℕ → ℕ → Bool
open_past m column row = both (ltb 0 column) (both (ltb 0 row) (open? m (column - 1) (row - 1)))

-- the four cells of a step
unfoldable pub permitted : Map → (across down column row : ℕ) → Bool
permitted m across down column row =
    both (open_past m (column + 1) (row + 1))
    (both (open_past m (column + across) (row + down)) (both (open_past m (column + 1) (row + down)) (open_past m (column + across) (row + 1))))

-- where a heading leads from a cell
unfoldable pub lead_of : Map → ℕ → ℕ → Option ℕ
lead_of m h x =
    pick (permitted m (change_of h).column (change_of h).row (x % m.width) (x / m.width))
    (Some (cell_of m (x % m.width + (change_of h).column - 1) (x / m.width + (change_of h).row - 1)))
    None
