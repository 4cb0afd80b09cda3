-- REFERENCE, "Numbers given back": the tests of a floor, and those of a start and a goal, in their order. Calls name
-- each group as one test of their own list.
use Rattle.std.specs.Prelude.{List, [], ◌∷◌, ℕ}
use Rattle.answers.specs.declared.Refusal.TheVariants.{SidesOutside, MapLength, BitPastWidth, StartOffFloor, GoalOffFloor, StartBlocked, GoalBlocked}
use Rattle.answers.specs.Refusing.{Tested, refuse, first_refusal}
use Rattle.floor.specs.Floor.{Map, Spot}
use Rattle.floor.specs.Refusals.{sides_outside, wrong_length, past_width, off_floor, closed}

-- a floor with sides up to the limit is accepted unless 1, 2 or 3 refuses, in this order
abbrev pub floor_tests : (limit : ℕ) → Map → List Tested
floor_tests limit m = refuse SidesOutside (sides_outside limit m.width m.height) ∷ refuse MapLength (wrong_length m) ∷ refuse BitPastWidth (past_width m) ∷ []

unfoldable pub floor_tested : (limit : ℕ) → Map → Tested
floor_tested limit m = first_refusal (floor_tests limit m)

-- 5, 6, 7, 8: start and goal are on the floor and open
abbrev pub places_tests : Map → (start goal : Spot) → List Tested
places_tests m start goal =
    refuse StartOffFloor (off_floor m.width m.height start)
    ∷ refuse GoalOffFloor (off_floor m.width m.height goal)
    ∷ refuse StartBlocked (closed m start)
    ∷ refuse GoalBlocked (closed m goal)
    ∷ []

unfoldable pub places_tested : Map → (start goal : Spot) → Tested
places_tested m start goal = first_refusal (places_tests m start goal)
