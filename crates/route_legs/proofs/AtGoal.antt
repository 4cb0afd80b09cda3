-- REFERENCE, "Routes and legs": at the goal a step hands back the same, and start equal to goal gives length (0, 0)
-- and no legs. With a filled table there is no next heading at the goal (8, by `taken`), and nowhere else from
-- where there is a way.
use mathlib.Core.Path.{◌≡◌, refl, ap, ap₂, sym, subst, ◌∙◌}
use mathlib.Core.Logic.{◌≢◌}
use mathlib.Core.List.{List, [], ◌++◌}
use Prim.Native.Nat.{ℕ, ◌*◌, ◌<◌}
use native.Mathlib.Omega.{arith}
use native.Mathlib.Decide.{ℕ_discrete}
use lib.ListN.{get_or, length, drop}
use Rattle.lengths.specs.declared.Length.{Length}
use Rattle.lengths.specs.Order.{zero_length}
use Rattle.floor.specs.Floor.{Map, cells}
use Rattle.floor.specs.inner.Ready.{SoundFloor}
use Rattle.steps.specs.inner.Leading.{lead_of}
use Rattle.steps.specs.Step.{steps_of}
use Rattle.steps.specs.Way.{Graph, Only, stay}
use Rattle.table_theory.specs.Filled.{Filled}
use Rattle.route_walker.specs.declared.Walker.{Walker}
use Rattle.route_walker.specs.Route as walk
use Rattle.route_walker.specs.Route.{Walk}
use Rattle.route_walker.specs.Legs.{Leg, Legs, bytes}
use Rattle.steps.specs.inner.Ranking.{Ranking}
use Rattle.route_walker.specs.inner.Walkers.{Run, done, more, next, taken, Stands, Steps, Stepped}
use Rattle.route_walker.proofs.First.{first_there}
use Rattle.route_walker.proofs.OnFloor.{first_run, no_way as none_at_mark}
use Rattle.route_walker.proofs.Searching.{run_exists}
use Rattle.route_walker.proofs.Stepping.{next_small}
use Rattle.std.specs.Prelude.{Result, Ok}
use Rattle.answers.specs.declared.Refusal.{Refusal}
use Rattle.route_legs.specs.declared.Way.{Way}
use Rattle.route_legs.specs.Read.{Routes}
use Rattle.route_legs.specs.inner.Reading.{ReadsRoute}
use Rattle.route_legs.proofs.LegsOf.{legs_unique, no_legs}
use Rattle.route_legs.proofs.Readings.{ReadAs, a_way, no_way, no_room, read_as}

module _ (m : Map) (c : SoundFloor m) (goal : ℕ) (on : goal < cells m) (t : List ℕ) (f : Filled (steps_of m) (Only goal) (cells m) t) (o : Ranking) where
  abbrev go : ℕ → ℕ
  go = next (lead_of m) t o.at

  goal_stops : go goal ≡ 8
  goal_stops =
      let (hs, l, r) = run_exists (lead_of m) t o goal in
      by r (first_there refl (first_run m c goal on t f o on (λ e. none_at_mark m c goal on t f goal on e zero_length (goal, refl, stay)) r)).0
    where
      by : {hs : List ℕ} {l : Length} → Run (lead_of m) t o.at goal hs l → hs ≡ [] → go goal ≡ 8
      by (done e) p = e
      by (more e b q r) p = absurd (let z : ◌≡◌ {A = ℕ} 0 1 = cc in omega arith)

  stops_there : (x : ℕ) → x < cells m → get_or t x 0 ≢ 4294967295 → go x ≡ 8 → x ≡ goal
  stops_there x b n e = let r = (first_run m c goal on t f o b n (done e)).route in by r.walk r.goal
    where
      by : {y : ℕ} {l : Length} → Walk (steps_of m) x y [] l → y ≡ goal → x ≡ goal
      by walk.stay g = g

  -- one step hands back the walker moved; at the goal it hands back the same
  module _ (w v : Walker) (s : Stands m t o w) (d : Stepped m t o w v) where
    pub step_at_goal : w.cell ≡ goal → v ≡ w
    step_at_goal e = d.still (omega (arith, s.ready ∙ ap go e ∙ goal_stops))

    pub step_elsewhere : w.cell ≢ goal → get_or t w.cell 0 ≢ 4294967295 → Steps m t o w v
    step_elsewhere e n = by (ℕ_discrete (taken w.next) 8)
      where
        by : Dec (taken w.next ≡ 8) → Steps m t o w v
        by (yes p) = absurd (e (stops_there w.cell s.on n (sym s.ready ∙ p)))
        by (no p) = d.moved (omega (arith, next_small m t o w s))

module _ (G : Graph) (Goal : ℕ → Type 0) (rank : ℕ → ℕ) (start : ℕ) (g : Goal start) where
  no_step : {l : Length} {ls : List Leg} → Routes G Goal rank start l ls → (l ≡ zero_length) × (ls ≡ [])
  no_step {ls = ls} r =
      let (e, f) = first_there g r.first in
      (f, legs_unique (subst (λ (hs : List ℕ). Legs hs ls) e r.legs_are) no_legs)

  -- start equal to goal gives length (0, 0) and no legs
  pub reads_there : (old : List ℕ) (r : Result Way Refusal) (new : List ℕ) → ReadsRoute G Goal rank start old r new
      → (r ≡ Ok (record { length = zero_length; legs = 0 })) × (new ≡ old)
  reads_there old r new p = by (read_as p)
    where
      by : {r : Result Way Refusal} → ReadAs G Goal rank start old r new → (r ≡ Ok (record { length = zero_length; legs = 0 })) × (new ≡ old)
      by (a_way w p) =
          let (e, f) = no_step p.route in (
            ap₂ (λ (l : Length) (n : ℕ). Ok (record { length = l; legs = n })) e (p.count ∙ ap length f),
            p.written ∙ ap (λ (ls : List Leg). bytes ls ++ drop (2 * length ls) old) f,
          )
      by (no_way p) = absurd (p.none zero_length (start, g, stay))
      by (no_room n p) = let (e, f) = no_step p.route in absurd (omega (arith, p.short, ap length f))
