-- No route on an accepted floor has more than 16,383 legs: each leg has a step, and a shortest way visits no cell
-- twice.
use mathlib.Core.Path.{◌≡◌, ap, subst, sym}
use mathlib.Core.List.{List, [], ◌∷◌}
use Prim.Native.Nat.{ℕ, ◌*◌, ◌+◌, ◌≤◌, ◌<◌}
use native.Mathlib.Nat.{mul-add}
use native.Mathlib.Omega.{arith}
use lib.Arith.{digits_lt}
use lib.ListN.{length}
use Rattle.std.specs.Prelude.{Ok}
use Rattle.lengths.specs.declared.Length.{Length}
use Rattle.lengths.specs.Order.{steps}
use Rattle.floor.specs.Floor.{Map, cells}
use Rattle.floor.specs.inner.Ready.{SoundFloor}
use Rattle.steps.specs.Way.{Graph, Only}
use Rattle.steps.specs.Step.{steps_of}
use Rattle.steps.proofs.Bound.{bound}
use Rattle.steps.proofs.OnMap.{few_cells, stays_on_floor}
use Rattle.calls.proofs.Called.{ends_ready}
use Rattle.plan.specs.declared.Query.{Query}
use Rattle.route_walker.specs.Legs.{Leg, Proper}
use Rattle.route_legs.specs.Read.{Routes}
use Rattle.route_legs.proofs.LegSteps.{steps_in, route_steps}
use Rattle.print_plan.specs.Query.{asked, query_tested, goal_cell}

-- each leg has a step
legs_steps : (G : Graph) (ls : List Leg) → Proper ls → length ls ≤ steps (steps_in G.weight ls)
legs_steps G [] p = omega arith
legs_steps G (a ∷ ls) p =
    let w = G.weight a.heading in
    let all : a.count * (w.straight + w.diagonal) ≡ a.count * 1 = ap (λ (n : ℕ). a.count * n) (G.one a.heading) in
    omega (arith, legs_steps G ls p.1.1, mul-add a.count w.straight w.diagonal, p.0)

pub few_legs : (m : Map) → SoundFloor m → (goal : ℕ) → goal < cells m → {rank : ℕ → ℕ} {start : ℕ} {l : Length} {ls : List Leg}
    → Routes (steps_of m) (Only goal) rank start l ls → length ls ≤ 16383
few_legs m s goal inside {start = start} {l} {ls} r =
    let on : (x : ℕ) → Only goal x → x < cells m = λ x e. subst (λ (y : ℕ). y < cells m) (sym e) inside in
    let b = bound (steps_of m) (Only goal) (cells m) (stays_on_floor m) on start l r.first.route.short in
    omega (arith, b, few_cells m s, legs_steps (steps_of m) ls r.legs_are.proper, ap steps (route_steps (steps_of m) r))

-- the goal of a query that no test refuses is on the floor
pub goal_inside : (m : Map) (q : Query) → query_tested m q ≡ Ok tt → goal_cell m q < cells m
goal_inside m q e = let to = (ends_ready (asked m q) (cells m) e).to in digits_lt to.row_on to.column_on
