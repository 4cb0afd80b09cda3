-- What the loops that load the map keep.
use mathlib.Core.Path.{◌≡◌}
use mathlib.Core.List.{List}
use Prim.Native.Nat.{ℕ, ◌+◌, ◌≤◌}
use lib.ListN.{length}
use Rattle.floor.specs.Floor.{Map}
use Rattle.fill_load.specs.inner.Load.{Prefix}

-- the cells of row r before column c are loaded, and all before row r
pub record CellsLoaded (m : Map) (x₀ : List ℕ) (c r : ℕ) (x : List ℕ) : Type 0 where
  pub inside : c ≤ m.width
  pub size : length x ≡ length x₀
  pub prefix : Prefix m c r x

-- the first i of count cells of a byte are loaded, from column c of row r on
pub record BitsLoaded (m : Map) (x₀ : List ℕ) (c r count i : ℕ) (x : List ℕ) : Type 0 where
  pub few : i ≤ count
  pub cells : CellsLoaded m x₀ (c + i) r x

-- the rows before r are loaded
pub record RowsLoaded (m : Map) (x₀ : List ℕ) (r : ℕ) (x : List ℕ) : Type 0 where
  pub inside : r ≤ m.height
  pub size : length x ≡ length x₀
  pub prefix : Prefix m 0 r x
