-- REFERENCE, "Rooms": how a room grows around a cell.
use Rattle.std.specs.Prelude.{Bool, ℕ, ◌+◌, ◌-◌}
use Rattle.answers.specs.Bools.{run, all_below}
use Rattle.rooms.specs.declared.Room.{Room}
use Rattle.floor.specs.Floor.{Map, open?}

-- how far the open cells of the column lead from the cell
unfoldable pub top_of : Map → ℕ → ℕ → ℕ
top_of m column row = row - run (λ i. open? m column (row - 1 - i)) row

unfoldable pub bottom_of : Map → ℕ → ℕ → ℕ
bottom_of m column row = row + run (λ i. open? m column (row + 1 + i)) (m.height - 1 - row)

-- the whole column from top to bottom is open
unfoldable pub column_open : Map → ℕ → ℕ → ℕ → Bool
column_open m top bottom column = all_below (λ i. open? m column (top + i)) (bottom + 1 - top)

-- how far columns lead that are open from top to bottom
unfoldable pub left_of : Map → ℕ → ℕ → ℕ → ℕ
left_of m top bottom column = column - run (λ i. column_open m top bottom (column - 1 - i)) column

unfoldable pub right_of : Map → ℕ → ℕ → ℕ → ℕ
right_of m top bottom column = column + run (λ i. column_open m top bottom (column + 1 + i)) (m.width - 1 - column)

abbrev pub room_of : Map → ℕ → ℕ → Room
room_of m column row =
    record {
      left = left_of m (top_of m column row) (bottom_of m column row) column;
      top = top_of m column row;
      right = right_of m (top_of m column row) (bottom_of m column row) column;
      bottom = bottom_of m column row;
    }
