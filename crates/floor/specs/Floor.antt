-- REFERENCE, "Floor": the map, its cells, and which of them are open.
use Rattle.std.specs.Prelude.{Bool, not, List, ℕ, ◌+◌, ◌*◌, ◌/◌, ◌%◌, ◌^◌, T, ltb, eqb, get_or}
use Rattle.answers.specs.Bools.{both}
pub use Rattle.floor.specs.declared.Spot.{Spot}

-- a floor has at most 128 columns and 128 rows
abbrev pub largest_side : ℕ
largest_side = 128

-- a floor's width and height, and the bytes of its map
pub record Map : Type 0 where
  pub width : ℕ
  pub height : ℕ
  pub bytes : List ℕ

abbrev pub map_of : ℕ → ℕ → List ℕ → Map
map_of width height bytes = record { width = width; height = height; bytes = bytes }

-- how many bytes one row of the map has: a bit for each cell, and whole bytes
abbrev pub bytes_per_row : ℕ → ℕ
bytes_per_row width = (width + 7) / 8

-- bit k of a byte, counted from the least: it stands for the k-th of eight cells from the west
abbrev pub bit : ℕ → ℕ → ℕ
bit k byte = byte / 2 ^ k % 2

-- whether the bit of a column and a row is set
unfoldable pub blocked : Map → ℕ → ℕ → Bool
blocked m column row = eqb (bit (column % 8) (get_or m.bytes (row * bytes_per_row m.width + column / 8) 0)) 1

-- open: on the floor, that is below width and height, and not blocked
unfoldable pub open? : Map → ℕ → ℕ → Bool
open? m column row = both (ltb column m.width) (both (ltb row m.height) (not (blocked m column row)))

abbrev pub Open : Map → ℕ → ℕ → Type 0
Open m column row = T (open? m column row)

-- cells are numbered along the rows
abbrev pub cell_of : Map → ℕ → ℕ → ℕ
cell_of m column row = row * m.width + column

abbrev pub cells : Map → ℕ
cells m = m.height * m.width

-- a column and a row
abbrev pub spot_of : ℕ → ℕ → Spot
spot_of column row = record { column = column; row = row }

abbrev pub spot_cell : Map → Spot → ℕ
spot_cell m s = cell_of m s.column s.row
