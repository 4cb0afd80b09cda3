-- The rule for the route: from the start, always take the lowest heading whose step lies on a shortest way to
-- the goal. Over any set of permitted steps, any goal cells, and any rank of the headings. Such a walk is a shortest
-- way; with a filled table the rule is a test on its entries.
use Rattle.std.proofs.Common.{◌≡◌, ℕ, ◌<◌, List, [], ◌∷◌, refl, ap, ◌∙◌, subst, arith}
use Rattle.lengths.specs.declared.Length.{Length}
use Rattle.lengths.specs.Order.{zero_length, ◌⊕◌, steps}
use Rattle.lengths.proofs.Order.{zero_least}
use Rattle.steps.specs.Way.{Graph, stay, Shortest}
use Rattle.steps.proofs.Ways.{shortest_unique}
use Rattle.table_theory.specs.Entry.{Entry, mark, long}
use Rattle.table_theory.specs.Filled.{Says}

-- the step by heading h from x to y lies on a shortest way
pub record OnShort (G : Graph) (Goal : ℕ → Type 0) (h x y : ℕ) : Type 0 where
  pub step : G.Step h x y
  pub rest : Length
  pub there : Shortest G Goal y rest
  pub here : Shortest G Goal x (rest ⊕ G.weight h)

-- and no heading of a lower rank has such a step
pub record Lowest (G : Graph) (Goal : ℕ → Type 0) (rank : ℕ → ℕ) (h x y : ℕ) : Type 0 where
  pub on : OnShort G Goal h x y
  pub none_lower : (k z : ℕ) → rank k < rank h → OnShort G Goal k x z → ⊥

-- the headings hs from x, each the lowest on a shortest way, with their length
pub data Follows (G : Graph) (Goal : ℕ → Type 0) (rank : ℕ → ℕ) : ℕ → List ℕ → Length → Type 0 where
  arrived : {x : ℕ} → Goal x → Follows G Goal rank x [] zero_length
  take : {h x y : ℕ} {hs : List ℕ} {l : Length} → Lowest G Goal rank h x y → Follows G Goal rank y hs l → Follows G Goal rank x (h ∷ hs) (l ⊕ G.weight h)

pub goal_zero : {G : Graph} {Goal : ℕ → Type 0} {x : ℕ} → Goal x → Shortest G Goal x zero_length
goal_zero {x = x} g = record { way = (x, g, stay); least = λ m r. zero_least m }

pub follows_shortest : {G : Graph} {Goal : ℕ → Type 0} {rank : ℕ → ℕ} {x : ℕ} {hs : List ℕ} {l : Length} → Follows G Goal rank x hs l → Shortest G Goal x l
follows_shortest (arrived g) = goal_zero g
follows_shortest {G} {Goal} (take {h = h} {x = x} f r) =
    subst (λ (z : Length). Shortest G Goal x (z ⊕ G.weight h)) (shortest_unique f.on.there (follows_shortest r)) f.on.here

-- from a goal no step lies on a shortest way
pub goal_stays : {G : Graph} {Goal : ℕ → Type 0} {h x y : ℕ} → Goal x → OnShort G Goal h x y → ⊥
goal_stays {G} {h = h} g o = let e = ap steps (shortest_unique (goal_zero g) o.here) in omega (arith, G.one h)

-- with a filled table the rule is a test on entries
module _ (G : Graph) (Goal : ℕ → Type 0) (T : ℕ → Entry) (right : (x : ℕ) → Says G Goal x (T x)) where
  says : {x : ℕ} {e : Entry} → T x ≡ e → Says G Goal x e
  says {x} p = subst (λ (e : Entry). Says G Goal x e) p (right x)

  pub on_entries : {h x y : ℕ} → G.Step h x y → (m : Length) → T y ≡ long m → T x ≡ long (m ⊕ G.weight h) → OnShort G Goal h x y
  on_entries s m q p = record { step = s; rest = m; there = says q; here = says p }

  shortest_entry : (x : ℕ) (l : Length) → Shortest G Goal x l → T x ≡ long l
  shortest_entry x l short = by (T x) refl
    where
      by : (e : Entry) → T x ≡ e → T x ≡ long l
      by mark p = absurd (says p l short.way)
      by (long m) p = p ∙ ap long (shortest_unique (says p) short)

  pub entries_on : {h x y : ℕ} → OnShort G Goal h x y → (m : Length) × (T y ≡ long m) × (T x ≡ long (m ⊕ G.weight h))
  entries_on {h} {x} {y} o = (o.rest, shortest_entry y o.rest o.there, shortest_entry x (o.rest ⊕ G.weight h) o.here)
