-- The map's bytes in the work array, place after place.
use Rattle.std.specs.Prelude.{◌≡◌, Bool, true, false, List, [], ℕ, ◌+◌, ◌-◌, ◌*◌, ◌/◌, ◌%◌, ◌≤◌, ◌<◌, get_or, length}
use Rattle.floor.specs.Floor.{Map, bit}
use Rattle.steps.specs.inner.Leading.{open_past}
use Rattle.floor.specs.inner.Ready.{SoundFloor}
use Rattle.fill_steps.specs.inner.Work.{unreached, stride, at, spot, waiting}

-- the number of an open and of a blocked cell
abbrev pub number_of : Bool → ℕ
number_of true = unreached
number_of false = 0

-- what stands at a place of the work array when the map is loaded
unfoldable pub loaded : Map → ℕ → ℕ
loaded m z = number_of (open_past m (z % stride) (z / stride))

-- a table of the numbers of four cells, by the four bits q of their map
pub record Fours (t : List (List ℕ)) : Type 0 where
  pub entry : (q k : ℕ) → q < 16 → k < 4 → at (get_or t q []) k ≡ (1 - bit k q) * unreached

-- cells of one byte of an accepted floor's map: count of them, from column c of row r on
pub record ByteRun (m : Map) (r c count : ℕ) : Type 0 where
  pub sound : SoundFloor m
  pub row : r < m.height
  pub aligned : c % 8 ≡ 0
  pub column : c < m.width
  pub few : count ≤ 8
  pub inside : c + count ≤ m.width

-- the work array has the floor's rows and a border row before and after them
pub record Tall (m : Map) (x : List ℕ) : Type 0 where
  pub rows : (m.height + 2) * stride ≤ length x

-- the rows before r are loaded and the cells of row r before column c, the other places are blocked, and no more cells
-- wait than were loaded
pub record Prefix (m : Map) (c r : ℕ) (x : List ℕ) : Type 0 where
  pub tall : Tall m x
  pub done : (z : ℕ) → z < spot c r → at x z ≡ loaded m z
  pub rest : (z : ℕ) → spot c r ≤ z → at x z ≡ 0
  pub few : waiting x ≤ r * m.width + c

-- an array of blocked cells
pub record Cleared (x : List ℕ) : Type 0 where
  pub done : (z : ℕ) → at x z ≡ 0
