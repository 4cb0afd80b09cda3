-- Lists in general: what is read inside one, and a list with one place changed.
use mathlib.Core.Path.{◌≡◌, refl, sym, subst}
use mathlib.Core.Logic.{◌≢◌}
use mathlib.Core.List.{List, [], ◌∷◌}
use Prim.Native.Nat.{ℕ, zero, suc, ◌<◌}
use native.Mathlib.Omega.{arith}
use native.Mathlib.Decide.{ℕ_discrete}
use lib.ListN.{get_or, length, set}
use lib.Seq.{get_or-set_same, get_or-set_other}

-- what is read inside a list does not depend on what stands for the rest
pub get_or_any : {A : Type 0} (l : List A) (i : ℕ) (a b : A) → i < length l → get_or l i a ≡ get_or l i b
get_or_any [] i a b h = absurd (omega arith)
get_or_any (x ∷ l) zero a b h = refl
get_or_any (x ∷ l) (suc i) a b h = get_or_any l i a b (omega arith)

-- a fact of every place, if it holds of the changed one and of the others as they were
pub each :
    {A : Type 0} (d : A) (x : List A) (a : ℕ) (c : A) → a < length x → (P : ℕ → A → Type 0) → P a c → ((z : ℕ) → z ≢ a → P z (get_or x z d))
    → (z : ℕ) → P z (get_or (set x a c) z d)
each d x a c h P here else z = by (ℕ_discrete z a)
  where
    by : Dec (z ≡ a) → P z (get_or (set x a c) z d)
    by (yes e) = subst (λ (i : ℕ). P i (get_or (set x a c) i d)) (sym e) (subst (P a) (sym (get_or-set_same x a c d h)) here)
    by (no e) = subst (P z) (sym (get_or-set_other x a z c d e)) (else z e)
