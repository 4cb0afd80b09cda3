-- The steps of legs: a walk is as long as its legs count straight and diagonal steps, and a filled table has this
-- length at its start.
use mathlib.Core.Path.{◌≡◌, refl, ap, sym, subst, ◌∙◌}
use mathlib.Core.List.{List, [], ◌∷◌}
use Prim.Native.Nat.{ℕ, zero, suc, ◌*◌, ◌≤◌, ◌<◌}
use native.Mathlib.Omega.{arith}
use native.Mathlib.Nat.{mul-add}
use lib.ListN.{get_or, length}
use Rattle.lengths.specs.declared.Length.{Length}
use Rattle.lengths.specs.Order.{zero_length, ◌⊕◌, steps}
use Rattle.lengths.proofs.Order.{length_ext}
use Rattle.steps.specs.Way.{Graph}
use Rattle.steps.proofs.Ways.{shortest_unique}
use Rattle.table_theory.specs.Entry.{Entry, mark, long, pack}
use Rattle.table_theory.specs.Filled.{Says, Filled}
use Rattle.route_walker.specs.Route as walk
use Rattle.route_walker.specs.Route.{Walk}
use Rattle.route_walker.specs.Legs.{Leg, Proper, again, join}
use Rattle.route_legs.specs.Read.{Routes}

-- so many steps of one kind
abbrev pub times : ℕ → Length → Length
times n w = record { straight = n * w.straight; diagonal = n * w.diagonal }

-- the straight and the diagonal steps in legs
abbrev pub steps_in : (ℕ → Length) → List Leg → Length
steps_in weight [] = zero_length
steps_in weight (a ∷ ls) = steps_in weight ls ⊕ times a.count (weight a.heading)

module _ (G : Graph) where
  -- what is left of a walk after n steps by the heading h
  pub record AfterLeg (n h : ℕ) (hs : List ℕ) (y : ℕ) (l : Length) : Type 0 where
    pub cell : ℕ
    pub left : Length
    pub rest : Walk G cell y hs left
    pub sum : l ≡ left ⊕ times n (G.weight h)

  pub after : (n h : ℕ) (hs : List ℕ) {x y : ℕ} {l : Length} → Walk G x y (again n h hs) l → AfterLeg n h hs y l
  after zero h hs {x} {l = l} w = record { cell = x; left = l; rest = w; sum = length_ext (omega arith) (omega arith) }
  after (suc n) h hs (walk.step s w) =
      let a = after n h hs w in
      let e = ap (λ (z : Length). z.straight) a.sum in
      let f = ap (λ (z : Length). z.diagonal) a.sum in
      record { cell = a.cell; left = a.left; rest = a.rest; sum = length_ext (omega arith) (omega arith) }

  joined_length : (ls : List Leg) {x y : ℕ} {l : Length} → Walk G x y (join ls) l → l ≡ steps_in G.weight ls
  joined_length [] walk.stay = refl
  joined_length (a ∷ ls) w =
      let p = after a.count a.heading (join ls) w in
      p.sum ∙ ap (λ (z : Length). z ⊕ times a.count (G.weight a.heading)) (joined_length ls p.rest)

  -- no more legs than steps
  pub few_legs : (ls : List Leg) → Proper ls → length ls ≤ steps (steps_in G.weight ls)
  few_legs [] p = omega arith
  few_legs (a ∷ ls) p =
      let w = G.weight a.heading in
      let e : a.count * steps w ≡ a.count * 1 = ap (λ (z : ℕ). a.count * z) (G.one a.heading) in
      omega (arith, few_legs ls p.1.1, p.0, e, mul-add a.count w.straight w.diagonal)

  module _ {Goal : ℕ → Type 0} {rank : ℕ → ℕ} {start : ℕ} {l : Length} {ls : List Leg} (r : Routes G Goal rank start l ls) where
    -- a route's length is the steps in its legs
    pub route_steps : l ≡ steps_in G.weight ls
    route_steps =
        let w = r.first.route.walk in
        joined_length ls (subst (λ (hs : List ℕ). Walk G start r.first.route.end hs l) (sym r.legs_are.joined) w)

    -- and a filled table's entry at its start
    pub route_entry : {n : ℕ} {t : List ℕ} → Filled G Goal n t → start < n → get_or t start 4294967295 ≡ pack (long l)
    route_entry f b = let e = f.entries start b in e.same ∙ ap pack (by e.what e.says)
      where
        by : (e : Entry) → Says G Goal start e → e ≡ long l
        by mark s = absurd (s l r.first.route.short.way)
        by (long a) s = ap long (shortest_unique s r.first.route.short)
