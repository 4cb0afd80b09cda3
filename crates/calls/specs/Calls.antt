-- REFERENCE, "Numbers given back": what calls that take a table are asked, and their tests in their order.
use Rattle.std.specs.Prelude.{List, [], ◌∷◌, ℕ}
use Rattle.answers.specs.declared.Refusal.TheVariants.{TableLength, GoalOffFloor, GoalBlocked}
use Rattle.answers.specs.Refusing.{Tested, refuse}
use Rattle.floor.specs.Floor.{Map, map_of, spot_of, largest_side}
use Rattle.floor.specs.declared.Spot.{Spot}
use Rattle.floor.specs.Refusals.{wrong_table, off_floor, closed}
use Rattle.floor.specs.Tests.{floor_tested, places_tested}

-- what a call to a goal is asked
pub record ToGoal : Type 0 where
  pub map : Map
  pub goal : Spot

abbrev pub to_goal : Map → Spot → ToGoal
to_goal m goal = record { map = m; goal = goal }

abbrev pub to_goal_of : (width height : ℕ) (bytes : List ℕ) (column row : ℕ) → ToGoal
to_goal_of width height bytes column row = to_goal (map_of width height bytes) (spot_of column row)

-- the tests of filling and of checking
unfoldable pub goal_tests : ToGoal → (entries : ℕ) → List Tested
goal_tests a entries =
    floor_tested largest_side a.map
    ∷ refuse TableLength (wrong_table a.map.width a.map.height entries)
    ∷ refuse GoalOffFloor (off_floor a.map.width a.map.height a.goal)
    ∷ refuse GoalBlocked (closed a.map a.goal)
    ∷ []

-- what a call for a route is asked
pub record Route : Type 0 where
  pub map : Map
  pub start : Spot
  pub goal : Spot

abbrev pub route : Map → (start goal : Spot) → Route
route m start goal = record { map = m; start = start; goal = goal }

abbrev pub route_of : (width height : ℕ) (bytes : List ℕ) (from-column from_row column row : ℕ) → Route
route_of width height bytes from-column from_row column row =
    route (map_of width height bytes) (spot_of from-column from_row) (spot_of column row)

-- the tests of both calls for a route, before the table is filled or checked
unfoldable pub route_tests : Route → (entries : ℕ) → List Tested
route_tests a entries =
    floor_tested largest_side a.map
    ∷ refuse TableLength (wrong_table a.map.width a.map.height entries)
    ∷ places_tested a.map a.start a.goal
    ∷ []
