-- The first route: there is one at most, and it is the walk that always takes the lowest heading on a shortest way. Two
-- walks from one cell are comparable in dictionary order, as a heading leads to one cell; so two first routes are the
-- same. A shortest walk that came before the greedy one would, where they part, take a lower heading that lies on a
-- shortest way; and a first route that did not take the lowest one would have such a walk before it.
use Rattle.std.proofs.Common.{◌≡◌, ℕ, suc, ◌<◌, ◌⊎◌, List, [], ◌∷◌, sym, refl, ap, subst, ap₂, inl, inr, arith}
use native.Mathlib.Decide.{dec_le}
use Rattle.lengths.specs.declared.Length.{Length}
use Rattle.lengths.specs.Order.{zero_length, ◌⊕◌, steps}
use Rattle.steps.specs.Way.{Graph, Way, stay, step, Shortest}
use Rattle.steps.proofs.Ways.{shortest_unique, tail_shortest}
use Rattle.route_walker.specs.Route as walk
use Rattle.route_walker.specs.Route.{Before, FirstRoute, ShortRoute, Walk}
use Rattle.route_walker.proofs.Greedy.{OnShort, Follows, arrived, take, follows_shortest, goal_stays, goal_zero}

-- a walk is a way, and a way has a walk
walk_way : {G : Graph} {x y : ℕ} {hs : List ℕ} {l : Length} → Walk G x y hs l → Way G x y l
walk_way walk.stay = stay
walk_way (walk.step s w) = step s (walk_way w)

way_walk : {G : Graph} {x y : ℕ} {l : Length} → Way G x y l → (hs : List ℕ) × Walk G x y hs l
way_walk stay = ([], walk.stay)
way_walk (step {h = h} s w) = let (hs, v) = way_walk w in (h ∷ hs, walk.step s v)

module _ (G : Graph) (Goal : ℕ → Type 0) (rank : ℕ → ℕ)
    (one_way : (h x y z : ℕ) → G.Step h x y → G.Step h x z → y ≡ z)
    (apart : (h k x y z : ℕ) → G.Step h x y → G.Step k x z → rank h ≡ rank k → h ≡ k) where
  -- two walks from one cell: one is before the other, or they are the same
  abbrev EitherFirst : List ℕ → List ℕ → Type 0
  EitherFirst hs ks = Before rank hs ks ⊎ ((hs ≡ ks) ⊎ Before rank ks hs)

  compared : {x y z : ℕ} {hs ks : List ℕ} {l m : Length} → Walk G x y hs l → Walk G x z ks m → EitherFirst hs ks
  compared walk.stay walk.stay = inr (inl refl)
  compared walk.stay (walk.step s w) = inl walk.shorter
  compared (walk.step s w) walk.stay = inr (inr walk.shorter)
  compared {z = z} (walk.step {h = h} {x = x} {y = y} {hs = hs} s w) (walk.step {h = k} {y = v} {hs = ks} {l = m} t r) =
      by (dec_le (suc (rank h)) (rank k)) (dec_le (suc (rank k)) (rank h)) (λ e. compared w (subst (λ (c : ℕ). Walk G c z ks m) (same_end e) r))
    where
      same_end : h ≡ k → v ≡ y
      same_end e = one_way h x v y (subst (λ (j : ℕ). G.Step j x v) (sym e) t) s

      on : h ≡ k → EitherFirst hs ks → EitherFirst (h ∷ hs) (k ∷ ks)
      on e (inl b) = inl (subst (λ (j : ℕ). Before rank (h ∷ hs) (j ∷ ks)) e (walk.same b))
      on e (inr (inl p)) = inr (inl (ap₂ ◌∷◌ e p))
      on e (inr (inr b)) = inr (inr (subst (λ (j : ℕ). Before rank (j ∷ ks) (h ∷ hs)) e (walk.same b)))

      by : Dec (rank h < rank k) → Dec (rank k < rank h) → (h ≡ k → EitherFirst hs ks) → EitherFirst (h ∷ hs) (k ∷ ks)
      by (yes p) q c = inl (walk.lower p)
      by (no p) (yes q) c = inr (inr (walk.lower q))
      by (no p) (no q) c = let e = apart h k x y v s t (omega arith) in on e (c e)

  -- there is one first route at most
  pub first_unique : {x : ℕ} {hs ks : List ℕ} {l m : Length} → FirstRoute G Goal rank x hs l → FirstRoute G Goal rank x ks m → hs ≡ ks
  first_unique {hs = hs} {ks} {l} {m} a b = by (compared a.route.walk b.route.walk)
    where
      by : EitherFirst hs ks → hs ≡ ks
      by (inl p) = absurd (b.first hs l a.route p)
      by (inr (inl p)) = p
      by (inr (inr p)) = absurd (a.first ks m b.route p)

module _ (G : Graph) (Goal : ℕ → Type 0) (rank : ℕ → ℕ) (one_way : (h x y z : ℕ) → G.Step h x y → G.Step h x z → y ≡ z) where
  -- the greedy walk is a walk to the goal
  follows_walk : {x : ℕ} {hs : List ℕ} {l : Length} → Follows G Goal rank x hs l → (g : ℕ) × Goal g × Walk G x g hs l
  follows_walk (arrived {x = x} g) = (x, g, walk.stay)
  follows_walk (take f r) = let (g, gg, w) = follows_walk r in (g, gg, walk.step f.on.step w)

  -- no shortest walk to the goal comes before it
  none_before : {x g : ℕ} {hs ks : List ℕ} {l m : Length} → Follows G Goal rank x hs l → Goal g → Walk G x g ks m → Shortest G Goal x m → Before rank ks hs → ⊥
  none_before (arrived _) gg _ s b = elim b [ ]
  none_before (take f r) gg walk.stay s walk.shorter = goal_stays gg f.on
  none_before (take f r) gg (walk.step {h = k} {y = z} {l = m} t w) s (walk.lower p) =
      f.none_lower k z p (record { step = t; rest = m; there = tail_shortest G gg t (walk_way w) s; here = s })
  none_before {g = g} (take {h = h} {x = x} {y = y} f r) gg (walk.step {y = z} {hs = ks} {l = m} t w) s (walk.same b) =
      let e = one_way h x z y t f.on.step in
      none_before r gg (subst (λ (c : ℕ). Walk G c g ks m) e w) (subst (λ (c : ℕ). Shortest G Goal c m) e (tail_shortest G gg t (walk_way w) s)) b

  -- the greedy walk is the first route
  pub follows_first : {x : ℕ} {hs : List ℕ} {l : Length} → Follows G Goal rank x hs l → FirstRoute G Goal rank x hs l
  follows_first f =
      let (g, gg, w) = follows_walk f in
      record {
        route = record { end = g; goal = gg; walk = w; short = follows_shortest f };
        first = λ ks m r. none_before f r.goal r.walk r.short;
      }

-- a step on a shortest way, before a shortest route
one_before : {G : Graph} {Goal : ℕ → Type 0} {h x y : ℕ} {hs : List ℕ} {l : Length} → OnShort G Goal h x y → ShortRoute G Goal y hs l
    → ShortRoute G Goal x (h ∷ hs) (l ⊕ G.weight h)
one_before {G} {Goal} {h} {x} o r = record {
  end = r.end;
  goal = r.goal;
  walk = walk.step o.step r.walk;
  short = subst (λ (z : Length). Shortest G Goal x (z ⊕ G.weight h)) (shortest_unique o.there r.short) o.here;
}

-- and the first route is the greedy walk
pub first_follows : (G : Graph) (Goal : ℕ → Type 0) (rank : ℕ → ℕ) {x : ℕ} {hs : List ℕ} {l : Length} → FirstRoute G Goal rank x hs l
    → Follows G Goal rank x hs l
first_follows G Goal rank f = by f.route.goal f.route.walk f.route.short f.first
  where
    by : {x g : ℕ} {hs : List ℕ} {l : Length} → Goal g → Walk G x g hs l → Shortest G Goal x l
        → ((ks : List ℕ) (m : Length) → ShortRoute G Goal x ks m → ¬ Before rank ks hs) → Follows G Goal rank x hs l
    by gg walk.stay s first = arrived gg
    by gg (walk.step {h = h} {x = x} {y = y} {l = l} t w) s first =
        let on : OnShort G Goal h x y = record { step = t; rest = l; there = tail_shortest G gg t (walk_way w) s; here = s } in
        take
        (record {
          on = on;
          none_lower = λ k z p o.
              let (e, ee, v) = o.there.way in
              let (ks, u) = way_walk v in
              first (k ∷ ks) _ (one_before o (record { end = e; goal = ee; walk = u; short = o.there })) (walk.lower p);
        })
        (by gg w on.there (λ ks m r b. first (h ∷ ks) _ (one_before on r) (walk.same b)))

-- at a goal the first route has no step
pub first_there : {G : Graph} {Goal : ℕ → Type 0} {rank : ℕ → ℕ} {x : ℕ} {hs : List ℕ} {l : Length} → Goal x → FirstRoute G Goal rank x hs l
    → (hs ≡ []) × (l ≡ zero_length)
first_there {G} {Goal} {x = x} g f = let e = shortest_unique f.route.short (goal_zero g) in (by f.route.walk e, e)
  where
    by : {y : ℕ} {hs : List ℕ} {l : Length} → Walk G x y hs l → l ≡ zero_length → hs ≡ []
    by walk.stay e = refl
    by (walk.step {h = h} s w) e = absurd (omega (arith, ap steps e, G.one h))
