-- The legs ahead of a walker: there are some, the first is the leg that it walks next, and at the goal there are none.
use mathlib.Core.Path.{◌≡◌, refl, ap, sym, subst, ◌∙◌}
use mathlib.Core.Logic.{◌≢◌}
use mathlib.Core.List.{List, [], ◌∷◌}
use Prim.Native.Nat.{ℕ}
use native.Mathlib.Omega.{arith}
use Rattle.std.specs.Prelude.{None}
use Rattle.lengths.specs.declared.Length.{Length}
use Rattle.lengths.specs.Order.{◌⊕◌}
use Rattle.lengths.proofs.Order.{length_ext}
use Rattle.floor.specs.Floor.{Map}
use Rattle.steps.specs.inner.Leading.{lead_of}
use Rattle.route_walker.specs.declared.Walker.{Walker}
use Rattle.route_walker.specs.declared.WalkedLeg.{WalkedLeg}
use Rattle.route_walker.specs.Legs.{Leg, Legs}
use Rattle.steps.specs.inner.Ranking.{Ranking}
use Rattle.route_walker.specs.inner.Walkers.{Run, done, more, taken, Stands, Leads}
use Rattle.route_walker.proofs.Searching.{run_exists}
use Rattle.route_legs.specs.inner.Ahead.{Ahead}
use Rattle.route_legs.proofs.LegsOf.{Other, legs_more, legs_of, legs_unique, no_legs}

abbrev pub leg_of : WalkedLeg → Leg
leg_of r = record { heading = r.heading.number; count = r.count }

module _ (m : Map) (t : List ℕ) (o : Ranking) where
  pub ahead_exists : (w : Walker) → (ls : List Leg) × (total : Length) × Ahead m t o w ls total
  ahead_exists w =
      let (hs, a, r) = run_exists (lead_of m) t o w.cell in
      let (ls, g) = legs_of hs in
      (ls, w.length ⊕ a, record { headings = hs; left = a; run = r; legs = g; sum = refl })

  -- the headings ahead begin with the walker's next one
  run_other : (v : Walker) (h : ℕ) (hs : List ℕ) (a : Length) → Stands m t o v → taken v.next ≢ h → Run (lead_of m) t o.at v.cell hs a → Other h hs
  run_other v h hs a s n (done e) = tt
  run_other v h hs a s n (more e b q r) = λ p. n (s.ready ∙ e ∙ sym p)

  -- the first leg ahead
  pub ahead_leg : (w : Walker) (r : WalkedLeg) → Leads m t o w r → (ls : List Leg) (total : Length) → Ahead m t o w ls total
      → (ks : List Leg) × (ls ≡ leg_of r ∷ ks) × Ahead m t o r.after ks total
  ahead_leg w r d ls total a =
      let p = d.going.split a.headings a.left a.run in
      let (ks, g) = legs_of p.rest in
      let other = run_other r.after (taken w.next) p.rest p.left d.going.stands d.whole p.run in
      let more-legs = legs_more (taken w.next) r.count p.rest ks d.some other g in
      let e = legs_unique a.legs (subst (λ (i : List ℕ). Legs i (record { heading = taken w.next; count = r.count } ∷ ks)) (sym p.heads) more-legs) in (
        ks,
        e ∙ ap (λ (h : ℕ). record { heading = h; count = r.count } ∷ ks) (sym d.heading),
        record { headings = p.rest; left = p.left; run = p.run; legs = g; sum = p.sum ∙ a.sum },
      )

  -- at the goal nothing is ahead
  pub ahead_end : (w : Walker) → Stands m t o w → w.next ≡ None → (ls : List Leg) (total : Length) → Ahead m t o w ls total → (ls ≡ []) × (w.length ≡ total)
  ahead_end w s b ls total a = by a.headings a.left a.run a.legs a.sum
    where
      by : (hs : List ℕ) (d : Length) → Run (lead_of m) t o.at w.cell hs d → Legs hs ls → w.length ⊕ d ≡ total → (ls ≡ []) × (w.length ≡ total)
      by hs d (done e) g f = (legs_unique g no_legs, length_ext (omega arith) (omega arith) ∙ f)
      by hs d (more e c q r) g f = absurd (omega (arith, s.ready, ap taken b))
