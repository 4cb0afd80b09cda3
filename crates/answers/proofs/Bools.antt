-- What joined tests that pass or fail show of each.
use mathlib.Core.Path.{◌≡◌, refl, sym, ◌∙◌, subst}
use mathlib.Core.Bool.{Bool, true, false, true≢false, false≢true}
use Prim.Native.Nat.{ℕ, zero, suc, ◌<◌}
use native.Mathlib.Omega.{arith}
use native.Mathlib.Decide.{ℕ_discrete}
use Rattle.answers.specs.Bools.{either, both, some_below, all_below}

-- neither of two tests holds
pub either_false : (a b : Bool) → either a b ≡ false → (a ≡ false) × (b ≡ false)
either_false true b e = absurd (true≢false e)
either_false false b e = (refl, e)

-- both of two tests hold
pub both_true : (a b : Bool) → both a b ≡ true → (a ≡ true) × (b ≡ true)
both_true true b e = (refl, e)
both_true false b e = absurd (false≢true e)

-- a number below suc n is n or below n
last_or : (P : ℕ → Type 0) (n k : ℕ) → k < suc n → P n → (k < n → P k) → P k
last_or P n k h here before = by (ℕ_discrete k n)
  where
    by : Dec (k ≡ n) → P k
    by (yes e) = subst P (sym e) here
    by (no e) = before (omega arith)

module _ (test : ℕ → Bool) where
  pub none_at : (n : ℕ) → some_below test n ≡ false → (k : ℕ) → k < n → test k ≡ false
  none_at zero e k h = absurd (omega arith)
  none_at (suc n) e k h =
      let p = either_false (some_below test n) (test n) e in
      last_or (λ i. test i ≡ false) n k h p.1 (λ lt. none_at n p.0 k lt)

  pub none_from : (n : ℕ) → ((k : ℕ) → k < n → test k ≡ false) → some_below test n ≡ false
  none_from zero fail = refl
  none_from (suc n) fail = rw (none_from n (λ k h. fail k (omega arith)), fail n (omega arith))

  -- one that passes is enough
  pub some_passes : (n k : ℕ) → k < n → test k ≡ true → some_below test n ≡ true
  some_passes n k h p = by (some_below test n) refl
    where
      by : (b : Bool) → some_below test n ≡ b → b ≡ true
      by true e = refl
      by false e = sym (none_at n e k h) ∙ p

  pub all_at : (n : ℕ) → all_below test n ≡ true → (k : ℕ) → k < n → test k ≡ true
  all_at zero e k h = absurd (omega arith)
  all_at (suc n) e k h =
      let p = both_true (all_below test n) (test n) e in
      last_or (λ i. test i ≡ true) n k h p.1 (λ lt. all_at n p.0 k lt)

  pub all_from : (n : ℕ) → ((k : ℕ) → k < n → test k ≡ true) → all_below test n ≡ true
  all_from zero pass = refl
  all_from (suc n) pass = rw (all_from n (λ k h. pass k (omega arith)), pass n (omega arith))

  -- one that fails is enough
  pub all_fails : (n k : ℕ) → k < n → test k ≡ false → all_below test n ≡ false
  all_fails n k h f = by (all_below test n) refl
    where
      by : (b : Bool) → all_below test n ≡ b → b ≡ false
      by true e = sym (all_at n e k h) ∙ f
      by false e = refl

  -- where not all pass, one fails
  pub some_fails : (n : ℕ) → all_below test n ≡ false → (k : ℕ) × (k < n) × (test k ≡ false)
  some_fails zero e = absurd (true≢false e)
  some_fails (suc n) e = by (all_below test n) refl (some_fails n)
    where
      by : (b : Bool) → all_below test n ≡ b → (all_below test n ≡ false → (k : ℕ) × (k < n) × (test k ≡ false))
          → (k : ℕ) × (k < suc n) × (test k ≡ false)
      by true f earlier = (n, omega arith, rw f at e)
      by false f earlier = let (k, lt, t) = earlier f in (k, omega arith, t)
