-- The numbers of a row of the floor, as they are written into the window.
use Rattle.std.specs.Prelude.{◌≡◌, List, ℕ, ◌+◌, EachIndex, slice_index}
use Rattle.floor.specs.Floor.{Map}
use Rattle.check_rows.specs.inner.Level.{number_at}

-- the number of the cell at column c of a row
abbrev pub in_row : Map → List ℕ → (row c : ℕ) → ℕ
in_row m t row c = number_at m t (c + 1) (row + 1)

-- these are the numbers of the first cells of a row
abbrev pub RowNumbers : Map → List ℕ → (row : ℕ) → List ℕ → Type 0
RowNumbers m t row numbers = EachIndex numbers (λ c. slice_index numbers c ≡ in_row m t row c)
