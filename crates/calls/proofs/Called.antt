-- What the tests of a call show where none refuses. A test's fact is found by its refusal, wherever the test stands in
-- the list.
use mathlib.Core.Path.{◌≡◌, sym, subst, subst₂}
use Prim.Native.Nat.{ℕ}
use lib.Arith.{digits_lt}
use borrow.Author.Tests.{eqb-true, not-false}
use Rattle.std.specs.Prelude.{Ok}
use Rattle.answers.specs.declared.Refusal.TheVariants.{TableLength, StartBlocked, GoalBlocked}
use Rattle.answers.specs.Refusing.{refuse, first_refusal}
use Rattle.answers.proofs.Refusals.{AllPassed, all_passed, passed_all, refuse_passed}
use Rattle.floor.specs.Floor.{Map, Open, cells, spot_cell}
use Rattle.floor.specs.Lent.{floor_map}
use Rattle.floor.specs.Refusals.{wrong_table}
use Rattle.floor.specs.declared.Spot.{Spot}
use Rattle.floor.specs.Tests.{places_tests, places_tested}
use Rattle.floor.specs.inner.Ready.{Fitting, Standing, OpenCell}
use Rattle.floor.proofs.Tested.{fits, stands, largest_low}
use Rattle.calls.specs.declared.ends.Goal.{Goal}
use Rattle.calls.specs.declared.ends.Ends.{Ends}
use Rattle.calls.specs.inner.Tested.{Aimed, Placed}
use Rattle.calls.specs.Calls.{ToGoal, to_goal, goal_tests, Route, route_tests}
use Rattle.steps.proofs.Grid.{cell, cell_column, cell_row}
use Rattle.steps.proofs.Leads.{floor}

-- the cell of a place that is on the floor and open
pub open_cell : (m : Map) (s : Spot) (x : ℕ) → x ≡ spot_cell m s → Standing m s → OpenCell m x
unfolding cell
open_cell m s x e p =
    let column = sym (cell_column (floor m) s.column s.row p.column_on) in
    let row = sym (cell_row (floor m) s.column s.row p.column_on) in
    record { on = rw e (digits_lt p.row_on p.column_on); free = rw e (subst₂ (Open m) column row p.free) }

-- what passing 4 shows of a table
pub sized : (m : Map) (entries : ℕ) → refuse TableLength (wrong_table m.width m.height entries) ≡ Ok tt → entries ≡ cells m
unfolding wrong_table
sized m entries e = eqb-true entries (cells m) (not-false _ (refuse_passed TableLength _ e))

-- what passed its tests on a floor is aimed on that floor's map
pub aimed : (m : Map) (s : Spot) (entries : ℕ) (g : Goal) → floor_map g.floor ≡ m
    → refuse TableLength (wrong_table g.floor.width g.floor.height entries) ≡ Ok tt → g.cell ≡ spot_cell (floor_map g.floor) s → Aimed m s entries g
aimed m s entries g same size cell = record {
  map = same;
  size = subst (λ (n : Map). entries ≡ cells n) same (sized (floor_map g.floor) entries size);
  cell = subst (λ (n : Map). g.cell ≡ spot_cell n s) same cell;
}

pub placed : (m : Map) (from to : Spot) (entries : ℕ) (e : Ends) → Aimed m to entries e.goal → e.start ≡ spot_cell (floor_map e.goal.floor) from
    → Placed m from to entries e
placed m from to entries e a start = record { aimed = a; start = subst (λ (n : Map). e.start ≡ spot_cell n from) a.map start }

both_placed : (m : Map) (start goal : Spot) → places_tested m start goal ≡ Ok tt → AllPassed (places_tests m start goal)
unfolding places_tested
both_placed m start goal e = all_passed (places_tests m start goal) e

-- both places passed
pub both_stand : (m : Map) (start goal : Spot) → places_tested m start goal ≡ Ok tt → Standing m start × Standing m goal
both_stand m start goal e =
    let places = both_placed m start goal e in
    (stands StartBlocked m start (search), stands GoalBlocked m goal (search))

-- no test of a call for a route refused
pub record ReadyEnds (a : Route) (entries : ℕ) : Type 0 where
  pub fitting : Fitting a.map entries
  pub from : Standing a.map a.start
  pub to : Standing a.map a.goal

pub ends_ready : (a : Route) (entries : ℕ) → first_refusal (route_tests a entries) ≡ Ok tt → ReadyEnds a entries
unfolding route_tests
ends_ready a entries e =
    let all = all_passed (route_tests a entries) e in
    let (from, to) = both_stand a.map a.start a.goal (search) in
    record { fitting = fits _ largest_low a.map entries (search) (search); from = from; to = to }

-- the call to a route's goal
abbrev pub its_goal : Route → ToGoal
its_goal a = to_goal a.map a.goal

-- what passed the tests of a call for a route passes those of a call to its goal
pub route_goal : (a : Route) (entries : ℕ) → first_refusal (route_tests a entries) ≡ Ok tt
    → first_refusal (goal_tests (its_goal a) entries) ≡ Ok tt
unfolding route_tests goal_tests
route_goal a entries e =
    let all = all_passed (route_tests a entries) e in
    let places = both_placed a.map a.start a.goal (search) in
    passed_all (goal_tests (its_goal a) entries) (search)
