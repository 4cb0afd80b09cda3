-- Numbers written one after the other: none, one more, all, and then others behind them.
use mathlib.Core.Path.{◌≡◌, refl, ap, sym, subst, ◌∙◌}
use mathlib.Core.Logic.{inl, inr, ⊎_elim}
use mathlib.Core.List.{List}
use Prim.Native.Nat.{ℕ, ◌+◌, ◌-◌, ◌≤◌, ◌<◌}
use native.Mathlib.Omega.{arith}
use native.Mathlib.Decide.{dec_le, ℕ_discrete}
use lib.ListN.{length, get_or, set, length-set}
use lib.Seq.{get_or-set_same, get_or-set_other}
use Rattle.table_theory.specs.inner.Written.{Written}

pub written_none : (f : ℕ → ℕ) (from : ℕ) (x : List ℕ) → Written f from 0 x x
written_none f from x = record { size = refl; inside = λ i h. absurd (omega arith); outside = λ z h. refl }

-- one number more
pub written_more :
    (f : ℕ → ℕ) (from i v : ℕ) (x y : List ℕ) → from + i < length y → v ≡ f i → Written f from i x y
    → Written f from (i + 1) x (set y (from + i) v)
written_more f from i v x y room e w = record {
  size = length-set y (from + i) v ∙ w.size;
  inside = λ j h. at j h (ℕ_discrete j i);
  outside = λ z h.
      get_or-set_other y (from + i) z v 0 (⊎_elim (λ k. omega arith) (λ k. omega arith) h)
      ∙ w.outside z (⊎_elim (λ k. inl k) (λ k. inr (omega arith)) h);
}
  where
    at : (j : ℕ) → j < i + 1 → Dec (j ≡ i) → get_or (set y (from + i) v) (from + j) 0 ≡ f j
    at j h (yes k) = ap (λ (z : ℕ). get_or (set y (from + i) v) (from + z) 0) k ∙ get_or-set_same y (from + i) v 0 room ∙ e ∙ ap f (sym k)
    at j h (no k) = get_or-set_other y (from + i) (from + j) v 0 (omega arith) ∙ w.inside j (omega arith)

-- all of them
pub written_all : (f : ℕ → ℕ) (from i n : ℕ) (x y : List ℕ) → i ≤ n → n ≤ i → Written f from i x y → Written f from n x y
written_all f from i n x y p q w = let e : i ≡ n = omega arith in subst (λ (k : ℕ). Written f from k x y) e w

-- the same numbers
pub written_as :
    (f g : ℕ → ℕ) (from count : ℕ) (x y : List ℕ) → ((i : ℕ) → i < count → f i ≡ g i) → Written f from count x y → Written g from count x y
written_as f g from count x y e w = record { size = w.size; inside = λ i h. w.inside i h ∙ e i h; outside = w.outside }

-- others behind them
pub written_on :
    (f : ℕ → ℕ) (from a next b : ℕ) (x y z : List ℕ) → next ≡ from + a → Written f from a x y → Written (λ i. f (a + i)) next b y z
    → Written f from (a + b) x z
written_on f from a next b x y z e v w = record {
  size = w.size ∙ v.size;
  inside = λ i h. at i h (dec_le a i);
  outside = λ k h.
      w.outside k (⊎_elim (λ p. inl (omega arith)) (λ p. inr (omega arith)) h)
      ∙ v.outside k (⊎_elim (λ p. inl p) (λ p. inr (omega arith)) h);
}
  where
    at : (i : ℕ) → i < a + b → Dec (a ≤ i) → get_or z (from + i) 0 ≡ f i
    at i h (yes p) =
        let n : from + i ≡ next + (i - a) = omega arith in
        let k : a + (i - a) ≡ i = omega arith in
        ap (λ (j : ℕ). get_or z j 0) n ∙ w.inside (i - a) (omega arith) ∙ ap f k
    at i h (no p) = w.outside (from + i) (inl (omega arith)) ∙ v.inside i (omega arith)
