-- What a call's tests give the code that works on: the floor is the map's, and cells are those of the places.
use Rattle.std.specs.Prelude.{◌≡◌, ℕ}
use Rattle.floor.specs.Floor.{Map, cells, spot_cell}
use Rattle.floor.specs.declared.Spot.{Spot}
use Rattle.floor.specs.Lent.{floor_map}
use Rattle.calls.specs.declared.ends.Goal.{Goal}
use Rattle.calls.specs.declared.ends.Ends.{Ends}

-- a goal on this map, and a table with an entry for each cell
pub record Aimed (m : Map) (goal : Spot) (entries : ℕ) (g : Goal) : Type 0 where
  pub map : floor_map g.floor ≡ m
  pub size : entries ≡ cells m
  pub cell : g.cell ≡ spot_cell m goal

-- and a start
pub record Placed (m : Map) (from to : Spot) (entries : ℕ) (e : Ends) : Type 0 where
  pub aimed : Aimed m to entries e.goal
  pub start : e.start ≡ spot_cell m from
