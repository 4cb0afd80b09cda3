-- Ways in general, over any set of permitted steps: joined, walked back, and what is left of a shortest way.
use mathlib.Core.Path.{◌≡◌, ap, subst}
use Prim.Native.Nat.{ℕ}
use native.Mathlib.Omega.{arith}
use Rattle.lengths.specs.declared.Length.{Length}
use Rattle.lengths.specs.Order.{◌⊕◌}
use Rattle.lengths.proofs.Order.{length_ext, ⊑_antisym, ⊕_cancel}
use Rattle.steps.specs.Way.{Graph, Way, stay, step, Reach, Shortest, Only}

-- steps can be walked back, at the same length
pub record Back (G : Graph) : Type 0 where
  pub reversed : ℕ → ℕ
  pub back : (h x y : ℕ) → G.Step h x y → G.Step (reversed h) y x
  pub same : (h : ℕ) → G.weight (reversed h) ≡ G.weight h

pub append : {G : Graph} {x y z : ℕ} {l m : Length} → Way G x y l → Way G y z m → Way G x z (l ⊕ m)
append {G} {x} {z = z} stay v = subst (Way G x z) (length_ext (omega arith) (omega arith)) v
append {G} {x} {z = z} (step {h = h} s w) v = subst (Way G x z) (length_ext (omega arith) (omega arith)) (step s (append w v))

pub reverse : {G : Graph} {x y : ℕ} {l : Length} → Back G → Way G x y l → Way G y x l
reverse b stay = stay
reverse {G} {x} {y} b (step {h = h} {y = m} {l = l} s w) =
    subst (Way G y x) (length_ext (omega (arith, ap (λ (z : Length). z.straight) (b.same h))) (omega (arith, ap (λ (z : Length). z.diagonal) (b.same h))))
    (append (reverse b w) (step (b.back h x m s) stay))

pub way_to : {G : Graph} {x y : ℕ} {l : Length} → Reach G (Only y) x l → Way G x y l
way_to {G} {x} {l = l} r = let (g, e, w) = r in subst (λ (z : ℕ). Way G x z l) e w

-- there is only one shortest length
pub shortest_unique : {G : Graph} {Goal : ℕ → Type 0} {x : ℕ} {l m : Length} → Shortest G Goal x l → Shortest G Goal x m → l ≡ m
shortest_unique {l = l} {m} a b = ⊑_antisym (a.least m b.way) (b.least l a.way)

-- the rest of a shortest way is a shortest way
pub tail_shortest :
    (G : Graph) {Goal : ℕ → Type 0} {h x y g : ℕ} {l : Length} → Goal g → G.Step h x y → Way G y g l
    → Shortest G Goal x (l ⊕ G.weight h) → Shortest G Goal y l
tail_shortest G {h = h} {g = g} gg s w short = record {
  way = (g, gg, w);
  least = λ m r. ⊕_cancel (G.weight h) (short.least _ (r.0, r.1, step s r.2));
}
