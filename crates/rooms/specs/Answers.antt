-- What asking for a room gives back.
use Rattle.std.specs.Prelude.{◌≡◌, List, [], ◌∷◌, ℕ, Result}
use Rattle.answers.specs.declared.Refusal.{Refusal}
use Rattle.answers.specs.declared.Refusal.TheVariants.{StartOffFloor, StartBlocked}
use Rattle.answers.specs.Refusing.{Tested, done, refuse, first_refusal, Answered, gives}
use Rattle.floor.specs.declared.Spot.{Spot}
use Rattle.floor.specs.Floor.{Map, largest_side}
use Rattle.floor.specs.Refusals.{off_floor, closed}
use Rattle.floor.specs.Tests.{floor_tested}
use Rattle.rooms.specs.declared.Room.{Room}
use Rattle.rooms.specs.Room.{room_of}

-- the tests of asking for a room
unfoldable pub room_tests : Map → (cell : Spot) → List Tested
room_tests m s = floor_tested largest_side m ∷ refuse StartOffFloor (off_floor m.width m.height s) ∷ refuse StartBlocked (closed m s) ∷ []

-- a room's left, top, right, bottom
abbrev pub corners_given : Room → List ℕ
corners_given r = r.left ∷ r.top ∷ r.right ∷ r.bottom ∷ []

abbrev pub Rooms : Map → (cell : Spot) → Result Room Refusal → Type 0
Rooms m s r =
    Answered (first_refusal (room_tests m s)) (Unit {0})
    (λ g. g ≡ done (corners_given (room_of m s.column s.row)))
    (gives corners_given r)
