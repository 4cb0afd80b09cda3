-- How far one can go on: `run` is the one number that passes all before it and stops at the end or at one that fails.
-- The two directions that growth goes in, backward (north, west) and forward (south, east), are said once over any
-- test.
use mathlib.Core.Path.{◌≡◌, refl, sym, ◌∙◌, subst}
use mathlib.Core.Bool.{Bool, true, false, true≢false}
use mathlib.Core.Logic.{◌⊎◌, inl, inr}
use Prim.Native.Nat.{ℕ, zero, suc, ◌+◌, ◌-◌, ◌≤◌, ◌<◌}
use native.Mathlib.Decide.{dec_lt}
use native.Mathlib.Omega.{arith}
use Rattle.answers.specs.Bools.{run, all_below, pick}
use Rattle.rooms.specs.inner.Runs.{Counts}
use Rattle.answers.proofs.Bools.{all_at, all_from, all_fails, some_fails}

-- i is as far as one can go: all before it pass, and it is the end or fails
record Runs (test : ℕ → Bool) (n i : ℕ) : Type 0 where
  most : i ≤ n
  passed : (j : ℕ) → j < i → test j ≡ true
  stop : i < n → test i ≡ false

first : (test : ℕ → Bool) (n : ℕ) (b : Bool) (r : ℕ) → test 0 ≡ b → Runs (λ i. test (suc i)) n r → Runs test (suc n) (pick b (suc r) 0)
first test n true r e h = record { most = omega (arith, h.most); passed = before; stop = λ lt. h.stop (omega arith) }
  where
    before : (j : ℕ) → j < suc r → test j ≡ true
    before zero lt = e
    before (suc j) lt = h.passed j (omega arith)
first test n false r e h = record { most = omega arith; passed = λ j lt. absurd (omega arith); stop = λ lt. e }

runs : (test : ℕ → Bool) (n : ℕ) → Runs test n (run test n)
runs test zero = record { most = omega arith; passed = λ j lt. absurd (omega arith); stop = λ lt. absurd (omega arith) }
runs test (suc n) = first test n (test 0) (run (λ i. test (suc i)) n) refl (runs (λ i. test (suc i)) n)

-- there is only one such number
not_less : (test : ℕ → Bool) (n i j : ℕ) → Runs test n i → Runs test n j → j ≤ i
not_less test n i j a b = by (dec_lt i j)
  where
    by : Dec (i < j) → j ≤ i
    by (yes lt) = absurd (true≢false (sym (b.passed i lt) ∙ a.stop (omega (arith, b.most))))
    by (no ge) = omega arith

run_is : (test : ℕ → Bool) (n i : ℕ) → Runs test n i → run test n ≡ i
run_is test n i a = omega (arith, not_less test n i (run test n) a (runs test n), not_less test n (run test n) i (runs test n) a)

-- the run of whatever test each call answers
pub counts : (Answers : ℕ → Bool → Type 0) (most n : ℕ) → n ≤ most → ((j : ℕ) → j < n → Answers j true) → (n < most → Answers n false)
    → Counts Answers most n
counts Answers most n h passed stop test answers =
    sym (run_is test most n (record { most = h; passed = λ j lt. sym (answers j true (omega arith) (passed j lt)); stop = λ lt. sym (answers n false lt (stop lt)) }))

-- all from a up to before b pass
abbrev pub AllPass : (ℕ → Bool) → ℕ → ℕ → Type 0
AllPass test a b = (k : ℕ) → a ≤ k → k < b → test k ≡ true

module _ (test : ℕ → Bool) where
  at : (i j : ℕ) (b : Bool) → i ≡ j → test i ≡ b → test j ≡ b
  at i j b e t = subst (λ (k : ℕ). test k ≡ b) e t

  pub one_after : (a b : ℕ) → AllPass test a b → test b ≡ true → AllPass test a (b + 1)
  one_after a b all t k p q = by (dec_lt k b)
    where
      by : Dec (k < b) → test k ≡ true
      by (yes lt) = all k p lt
      by (no ge) = at b k true (omega arith) t

  -- from x one can go back as far as y
  pub record Backward (x y : ℕ) : Type 0 where
    pub most : y ≤ x
    pub passed : AllPass test y x
    pub stop : 0 < y → test (y - 1) ≡ false

  pub backward : (x : ℕ) → Backward x (x - run (λ i. test (x - 1 - i)) x)
  backward x =
      let r = run (λ i. test (x - 1 - i)) x in
      let h = runs (λ i. test (x - 1 - i)) x in
      record {
        most = omega arith;
        passed = λ k p q. at (x - 1 - (x - 1 - k)) k true (omega arith) (h.passed (x - 1 - k) (omega arith));
        stop = λ p. at (x - 1 - r) (x - r - 1) false (omega arith) (h.stop (omega arith));
      }

  pub back_end : (x y : ℕ) → Backward x y → (y ≡ 0) ⊎ (test (y - 1) ≡ false)
  back_end x zero b = inl refl
  back_end x (suc y) b = inr (b.stop (omega arith))

  -- from x one can go forward as far as y, which stays below the limit
  pub record Forward (limit x y : ℕ) : Type 0 where
    pub least : x ≤ y
    pub within : y < limit
    pub passed : AllPass test (x + 1) (y + 1)
    pub stop : y + 1 < limit → test (y + 1) ≡ false

  pub forward : (limit x : ℕ) → x < limit → Forward limit x (x + run (λ i. test (x + 1 + i)) (limit - 1 - x))
  forward limit x on =
      let r = run (λ i. test (x + 1 + i)) (limit - 1 - x) in
      let h = runs (λ i. test (x + 1 + i)) (limit - 1 - x) in
      let most = h.most in
      record {
        least = omega arith;
        within = omega arith;
        passed = λ k p q. at (x + 1 + (k - (x + 1))) k true (omega arith) (h.passed (k - (x + 1)) (omega arith));
        stop = λ p. at (x + 1 + r) (x + r + 1) false (omega arith) (h.stop (omega arith));
      }

  pub forth_end : (limit x y : ℕ) → Forward limit x y → (y + 1 ≡ limit) ⊎ (test (y + 1) ≡ false)
  forth_end limit x y f = by (dec_lt (y + 1) limit)
    where
      by : Dec (y + 1 < limit) → (y + 1 ≡ limit) ⊎ (test (y + 1) ≡ false)
      by (yes lt) = inr (f.stop lt)
      by (no ge) = inl (omega (arith, f.within))

  -- all of a part pass, and one of it fails
  pub part_passes : (a b : ℕ) → AllPass test a b → all_below (λ i. test (a + i)) (b - a) ≡ true
  part_passes a b all = all_from (λ i. test (a + i)) (b - a) (λ i lt. all (a + i) (omega arith) (omega arith))

  pub part_fails : (a b k : ℕ) → a ≤ k → k < b → test k ≡ false → all_below (λ i. test (a + i)) (b - a) ≡ false
  part_fails a b k p q f = all_fails (λ i. test (a + i)) (b - a) (k - a) (omega arith) (at k (a + (k - a)) false (omega arith) f)

  pub part_at : (a b : ℕ) → all_below (λ i. test (a + i)) (b - a) ≡ true → AllPass test a b
  part_at a b e k p q = at (a + (k - a)) k true (omega arith) (all_at (λ i. test (a + i)) (b - a) e (k - a) (omega arith))

  pub part_has : (a b : ℕ) → all_below (λ i. test (a + i)) (b - a) ≡ false → (k : ℕ) × (a ≤ k) × (k < b) × (test k ≡ false)
  part_has a b e = let (i, lt, f) = some_fails (λ i. test (a + i)) (b - a) e in (a + i, omega arith, omega arith, f)
