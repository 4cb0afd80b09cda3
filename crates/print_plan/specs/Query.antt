-- REFERENCE, "What `ways` prints": the numbers of a query's line.
use Rattle.std.specs.Prelude.{◌≡◌, List, [], ◌∷◌, ℕ, length, Ok, Err}
use Rattle.answers.specs.Numbers.{number_of}
use Rattle.answers.specs.declared.Refusal.{Refusal}
use Rattle.answers.specs.Refusing.{Tested, first_refusal}
use Rattle.lengths.specs.declared.Length.{Length}
use Rattle.lengths.specs.Distance.{Spoken}
use Rattle.floor.specs.Floor.{Map, cells, spot_of, spot_cell}
use Rattle.calls.specs.Calls.{Route, route_tests}
use Rattle.steps.specs.Way.{Only, Reach}
use Rattle.steps.specs.Step.{steps_of}
use Rattle.plan.specs.declared.Query.{Query}
use Rattle.route_walker.specs.Legs.{Leg, bytes}
use Rattle.route_legs.specs.Read.{Routes}

-- the route that a query asks for
abbrev pub asked : Map → Query → Route
asked m q = record { map = m; start = spot_of q.start_col q.start_row; goal = spot_of q.goal_col q.goal_row }

-- its tests: the table has an entry for each cell
abbrev pub query_tested : Map → Query → Tested
query_tested m q = first_refusal (route_tests (asked m q) (cells m))

abbrev pub start_cell : Map → Query → ℕ
start_cell m q = spot_cell m (asked m q).start

abbrev pub goal_cell : Map → Query → ℕ
goal_cell m q = spot_cell m (asked m q).goal

-- the numbers of a query's line: its own, that of the answer and, of a way, the length, the distance and the legs. No 10
-- is among them: the leg buffer has room for 16,383 legs, and no route has more
pub data QueryNumbers (m : Map) (size number : ℕ) (q : Query) : List ℕ → Type 0 where
  refused : (f : Refusal) → query_tested m q ≡ Err f → QueryNumbers m size number q (number ∷ number_of f ∷ [])
  no_way :
      query_tested m q ≡ Ok tt → ((l : Length) → ¬ Reach (steps_of m) (Only (goal_cell m q)) (start_cell m q) l)
      → QueryNumbers m size number q (number ∷ 9 ∷ [])
  way :
      query_tested m q ≡ Ok tt → (l : Length) (legs : List Leg) (centimetres : ℕ)
      → Routes (steps_of m) (Only (goal_cell m q)) (λ h. h) (start_cell m q) l legs → Spoken size l centimetres
      → QueryNumbers m size number q (number ∷ 0 ∷ l.straight ∷ l.diagonal ∷ centimetres ∷ length legs ∷ bytes legs)
