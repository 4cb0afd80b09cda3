-- A shortest way over n cells has at most n − 1 steps.
use mathlib.Core.Path.{◌≡◌, ap, sym, subst₂, ◌∙◌}
use mathlib.Core.Logic.{◌⊎◌, inl, inr}
use Prim.Native.Nat.{ℕ, suc, ◌≤◌, ◌<◌}
use native.Mathlib.Omega.{arith}
use native.Mathlib.Decide.{ℕ_discrete}
use Rattle.lengths.specs.declared.Length.{Length}
use Rattle.lengths.specs.Order.{zero_length, ◌⊕◌, steps}
use Rattle.steps.specs.Way.{Graph, Way, stay, step, Shortest}
use Rattle.steps.proofs.Ways.{shortest_unique, tail_shortest}
use Rattle.steps.proofs.Pigeon.{pigeon}

module _ (G : Graph) (Goal : ℕ → Type 0) (n : ℕ)
    (inside : (h x y : ℕ) → G.Step h x y → x < n) (goal_inside : (x : ℕ) → Goal x → x < n) where
  -- cell i is j steps from the goal on a shortest way
  abbrev Far : ℕ → ℕ → Type 0
  Far i j = (m : Length) × Shortest G Goal i m × (steps m ≡ j)

  far_unique : (i j k : ℕ) → Far i j → Far i k → j ≡ k
  far_unique i j k a b = sym a.2 ∙ ap steps (shortest_unique a.1 b.1) ∙ b.2

  chain : {x g : ℕ} {l : Length} → Goal g → Way G x g l → Shortest G Goal x l → (j : ℕ) → j ≤ steps l → (i : ℕ) × (i < n) × Far i j
  chain {x} gg stay short j h = (x, goal_inside x gg, (zero_length, short, omega arith))
  chain {x} {g} gg (step {h = d} {y = y} {l = l} s w) short j h = by (ℕ_discrete j (steps (l ⊕ G.weight d)))
      (λ k. chain gg w (tail_shortest G gg s w short) j k)
    where
      by : Dec (j ≡ steps (l ⊕ G.weight d)) → (j ≤ steps l → (i : ℕ) × (i < n) × Far i j) → (i : ℕ) × (i < n) × Far i j
      by (yes e) ih = (x, inside d x y s, (l ⊕ G.weight d, short, sym e))
      by (no e) ih = ih (omega (arith, G.one d))

  pub bound : (x : ℕ) (l : Length) → Shortest G Goal x l → steps l < n
  bound x l short =
      pigeon Far far_unique (suc (steps l)) n (λ j h. let (g, gg, w) = short.way in chain gg w short j (omega arith))

-- a way visits cell i with the length r left
abbrev pub On : {G : Graph} {x g : ℕ} {l : Length} → Way G x g l → ℕ → Length → Type 0
On (stay {x = x}) i r = (i ≡ x) × (r ≡ zero_length)
On {G} (step {h = h} {x = x} {l = l} s w) i r = ((i ≡ x) × (r ≡ l ⊕ G.weight h)) ⊎ On w i r

-- what is left of a shortest way is shortest
left_shortest :
    {G : Graph} {Goal : ℕ → Type 0} {x g : ℕ} {l : Length} → Goal g → (w : Way G x g l) → Shortest G Goal x l
    → (i : ℕ) (r : Length) → On w i r → Shortest G Goal i r
left_shortest {G} {Goal} gg stay short i r o = subst₂ (Shortest G Goal) (sym o.0) (sym o.1) short
left_shortest {G} {Goal} gg (step s w) short i r (inl o) = subst₂ (Shortest G Goal) (sym o.0) (sym o.1) short
left_shortest {G} gg (step s w) short i r (inr o) = left_shortest gg w (tail_shortest G gg s w short) i r o

-- a shortest way visits no cell twice: each visit of a cell has the same length left, and every step takes from it
pub visits_once :
    {G : Graph} {Goal : ℕ → Type 0} {x g : ℕ} {l : Length} → Goal g → (w : Way G x g l) → Shortest G Goal x l
    → (i : ℕ) (q r : Length) → On w i q → On w i r → q ≡ r
visits_once gg w short i q r a b = shortest_unique (left_shortest gg w short i q a) (left_shortest gg w short i r b)
