-- On a floor with sides of at most 128 every leg of a route has 1 to 127 steps.
use mathlib.Core.Path.{sym, subst}
use mathlib.Core.List.{List, [], ◌∷◌}
use Prim.Native.Nat.{ℕ, zero, suc, ◌≤◌, ◌<◌}
use native.Mathlib.Omega.{arith}
use Rattle.lengths.specs.declared.Length.{Length}
use Rattle.floor.specs.Floor.{Map}
use Rattle.floor.specs.inner.Ready.{SoundFloor}
use Rattle.steps.specs.Step.{steps_of}
use Rattle.steps.proofs.Grid.{Floor, graph}
use Rattle.steps.proofs.Leads.{floor}
use Rattle.route_walker.specs.Route as walk
use Rattle.route_walker.specs.Route.{Walk}
use Rattle.route_walker.specs.Legs.{Leg, Proper, again, join}
use Rattle.route_walker.proofs.ShortRuns.{run_short}
use Rattle.route_legs.specs.Read.{Routes}
use Rattle.route_legs.proofs.LegSteps.{after}

-- a leg as it is written: a byte for the heading, a byte for the count, 1 to 127
pub record Fine (a : Leg) : Type 0 where
  pub heading : a.heading < 8
  pub some : 1 ≤ a.count
  pub short : a.count ≤ 127

abbrev pub AllFine : List Leg → Type 0
AllFine [] = Unit {0}
AllFine (a ∷ ls) = Fine a × AllFine ls

module _ (f : Floor) (wide : f.width ≤ 128) (high : f.height ≤ 128) where
  begins : (n h : ℕ) (hs : List ℕ) {x y : ℕ} {l : Length} → 0 < n → Walk (graph f) x y (again n h hs) l → h < 8
  begins zero h hs p w = absurd (omega arith)
  begins (suc n) h hs p (walk.step s w) = s.heading

  all_fine : (ls : List Leg) {x y : ℕ} {l : Length} → Proper ls → Walk (graph f) x y (join ls) l → AllFine ls
  all_fine [] p w = tt
  all_fine (a ∷ ls) p w = (
    record {
      heading = begins a.count a.heading (join ls) p.0 w;
      some = p.0;
      short = run_short f wide high a.count a.heading (join ls) w;
    },
    all_fine ls p.1.1 (after (graph f) a.count a.heading (join ls) w).rest,
  )

-- every leg of a route is so
pub route_fine : (m : Map) → SoundFloor m → {Goal : ℕ → Type 0} {rank : ℕ → ℕ} {start : ℕ} {l : Length} {ls : List Leg}
    → Routes (steps_of m) Goal rank start l ls → AllFine ls
route_fine m c {start = start} {l} {ls} r =
    all_fine (floor m) c.wide c.high ls r.legs_are.proper
    (subst (λ (hs : List ℕ). Walk (steps_of m) start r.first.route.end hs l) (sym r.legs_are.joined) r.first.route.walk)
