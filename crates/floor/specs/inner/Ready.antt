-- What passing the tests has shown of a floor, of a table and of a place: what inner functions ask for.
use Rattle.std.specs.Prelude.{◌≡◌, ℕ, ◌*◌, ◌%◌, ◌/◌, ◌≤◌, ◌<◌, length}
use Rattle.floor.specs.Floor.{Map, Open, Spot, bytes_per_row, cells, largest_side}

-- a limit of the sides that no call goes above
unfoldable pub Low : (limit : ℕ) → Type 0
Low limit = limit ≤ largest_side

-- sides that pass their test
pub record Sided (limit width height : ℕ) : Type 0 where
  pub some_wide : 1 ≤ width
  pub wide : width ≤ limit
  pub some_high : 1 ≤ height
  pub high : height ≤ limit

-- what an accepted floor has
pub record SoundFloor (m : Map) : Type 0 where
  pub some_wide : 1 ≤ m.width
  pub wide : m.width ≤ largest_side
  pub some_high : 1 ≤ m.height
  pub high : m.height ≤ largest_side
  pub size : length m.bytes ≡ m.height * bytes_per_row m.width

-- an accepted floor, and a table with an entry for each cell
pub record Fitting (m : Map) (entries : ℕ) : Type 0 where
  pub sound : SoundFloor m
  pub size : entries ≡ cells m

-- a place on the floor whose cell is open
pub record Standing (m : Map) (s : Spot) : Type 0 where
  pub column_on : s.column < m.width
  pub row_on : s.row < m.height
  pub free : Open m s.column s.row

-- the same of a cell by its number
pub record OpenCell (m : Map) (x : ℕ) : Type 0 where
  pub on : x < cells m
  pub free : Open m (x % m.width) (x / m.width)

-- what a call to a goal has been tested for: the floor with its table, and the goal's cell
pub record Ready (m : Map) (goal entries : ℕ) : Type 0 where
  pub fitting : Fitting m entries
  pub chosen : OpenCell m goal
