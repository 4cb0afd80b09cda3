-- The worked cases that are proved: one list, and what is said of each. A case holds if every answer,
-- and all that is left in table and leg buffer, that meets the promise of the entry point at these inputs is what the
-- case states.
use Rattle.std.specs.Prelude.{◌≡◌, Bool, List, [], ◌∷◌, ◌++◌, ℕ, ◌*◌, ◌≤◌, length, drop, Result}
use Rattle.answers.specs.declared.Refusal.{Refusal}
use Rattle.answers.specs.declared.Refusal.TheVariants.{NoWay, TableWrong}
use Rattle.answers.specs.Refusing.{Tested, Given, done, refused, gives, no_values}
use Rattle.lengths.specs.declared.Length.{Length}
use Rattle.lengths.specs.Answers.{order_given, Compares, centimetres_given, Speaks}
use Rattle.floor.specs.declared.Spot.{Spot}
use Rattle.floor.specs.Floor.{Map, map_of, spot_of, cells}
use Rattle.calls.specs.Calls.{to_goal, route}
use Rattle.rooms.specs.declared.Room.{Room}
use Rattle.rooms.specs.Answers.{corners_given, Rooms}
use Rattle.table_theory.specs.Entry.{mark, long, pack}
use Rattle.table.specs.Answers.{Fills, Checks}
use Rattle.route_walker.specs.Legs.{Leg, bytes}
use Rattle.route_legs.specs.declared.Way.{Way}
use Rattle.route.specs.Answers.{way_given, Finds}

-- which job is called, with what, and what comes of it
pub data Case : Type 0 where
  compare : (first second : Length) → Given → Case
  distance : (size : ℕ) → Length → Given → Case
  room : Map → Spot → Given → Case
  fill : Map → (goal : Spot) → (table : List ℕ) → Case
  check : Map → (goal : Spot) → (table : List ℕ) → Given → Case
  find : Map → (start goal : Spot) → Given → List Leg → (table : List ℕ) → Case

-- legs are written from the front of the leg buffer; bytes after the last leg keep their values
abbrev pub written : List Leg → List ℕ → List ℕ
written legs buffer = bytes legs ++ drop (2 * length legs) buffer

-- a table of the right size, whatever it held, and any leg buffer with room for the legs are lent
abbrev pub Holds : Case → Type 0
Holds (compare a b given) = (r : Result Bool Refusal) → Compares a b r → gives order_given r ≡ given
Holds (distance size l given) = (r : Result ℕ Refusal) → Speaks size l r → gives centimetres_given r ≡ given
Holds (room m s given) = (r : Result Room Refusal) → Rooms m s r → gives corners_given r ≡ given
Holds (fill m goal table) =
    (r : Tested) (old new : List ℕ) → length old ≡ cells m → Fills (to_goal m goal) old r new → (gives no_values r ≡ done []) × (new ≡ table)
Holds (check m goal table given) = (r : Tested) → Checks (to_goal m goal) table r → gives no_values r ≡ given
Holds (find m start goal given legs table) =
    (r : Result Way Refusal) (old new buffer buffer' : List ℕ) → length old ≡ cells m → 2 * length legs ≤ length buffer
    → Finds (route m start goal) old buffer r new buffer' → (gives way_given r ≡ given) × (new ≡ table) × (buffer' ≡ written legs buffer)

abbrev pub All : List Case → Type 0
All [] = Unit {0}
All (c ∷ cs) = Holds c × All cs

-- the length (straight, diagonal), and the number that stands for it in a table
abbrev pub pair : ℕ → ℕ → Length
pair straight diagonal = record { straight = straight; diagonal = diagonal }

abbrev pub entry : ℕ → ℕ → ℕ
entry straight diagonal = pack (long (pair straight diagonal))

abbrev pub leg : ℕ → ℕ → Leg
leg heading count = record { heading = heading; count = count }

-- 11 with the first cell that differs
abbrev pub differing : ℕ → Given
differing cell = refused (TableWrong cell)

-- floor A is 5 wide, 3 high, bytes 0, 4, 0
abbrev pub floor_a : Map
floor_a = map_of 5 3 (0 ∷ 4 ∷ 0 ∷ [])

-- A, table for (4,1), but for cell 6: rows 0 and 2 each (3,1) (2,1) (1,1) (0,1) (1,0); row 1 (2,2), cell 6, mark
-- (1,0) (0,0)
abbrev pub table_with : ℕ → List ℕ
table_with cell6 =
    entry 3 1 ∷ entry 2 1 ∷ entry 1 1 ∷ entry 0 1 ∷ entry 1 0
    ∷ entry 2 2 ∷ cell6 ∷ pack mark ∷ entry 1 0 ∷ entry 0 0
    ∷ entry 3 1 ∷ entry 2 1 ∷ entry 1 1 ∷ entry 0 1 ∷ entry 1 0 ∷ []

abbrev pub table_a : List ℕ
table_a = table_with (entry 3 1)

-- headings: 1 is NE, 2 E, 3 SE, 4 S. A way gives its straight and diagonal steps and its leg count
abbrev pub cases : List Case
cases =
    find floor_a (spot_of 0 1) (spot_of 4 1) (done (2 ∷ 2 ∷ 3 ∷ [])) (leg 1 1 ∷ leg 2 2 ∷ leg 3 1 ∷ []) table_a
    ∷ fill floor_a (spot_of 4 1) table_a
    ∷ check floor_a (spot_of 4 1) table_a (done [])
    ∷ check floor_a (spot_of 4 1) (table_with (entry 2 1)) (differing 5)
    ∷ find (map_of 2 2 (2 ∷ 1 ∷ [])) (spot_of 0 0) (spot_of 1 1) (refused NoWay) [] (pack mark ∷ pack mark ∷ pack mark ∷ entry 0 0 ∷ [])
    ∷ find (map_of 2 2 (2 ∷ 0 ∷ [])) (spot_of 0 0) (spot_of 1 1) (done (2 ∷ 0 ∷ 2 ∷ [])) (leg 4 1 ∷ leg 2 1 ∷ []) (entry 2 0 ∷ pack mark ∷ entry 1 0 ∷ entry 0 0 ∷ [])
    ∷ find (map_of 3 1 (2 ∷ [])) (spot_of 0 0) (spot_of 2 0) (refused NoWay) [] (pack mark ∷ pack mark ∷ entry 0 0 ∷ [])
    ∷ room floor_a (spot_of 0 1) (done (0 ∷ 0 ∷ 1 ∷ 2 ∷ []))
    ∷ room floor_a (spot_of 2 0) (done (0 ∷ 0 ∷ 4 ∷ 0 ∷ []))
    ∷ compare (pair 140 0) (pair 0 99) (done (1 ∷ []))
    ∷ compare (pair 3 0) (pair 0 2) (done (0 ∷ []))
    ∷ distance 50 (pair 0 3) (done (212 ∷ []))
    ∷ []
