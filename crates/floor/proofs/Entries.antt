-- A rule of a table of any element, proved at all of its entries by one test that is computed over the whole table.
use mathlib.Core.Path.{◌≡◌}
use mathlib.Core.Bool.{Bool, true}
use mathlib.Core.List.{List, [], ◌∷◌}
use Prim.Native.Nat.{ℕ, zero, suc, ◌<◌}
use native.Mathlib.Nat.{le_of_suc-le-suc, not-suc-le-zero}
use lib.ListN.{length, get_or}
use Rattle.answers.specs.Bools.{both}
use Rattle.answers.proofs.Bools.{both_true}

-- the test passes at each entry and its place
abbrev pub every : {A : Type 0} → (ℕ → A → Bool) → List A → Bool
every test [] = true
every test (x ∷ xs) = both (test 0 x) (every (λ k. test (suc k)) xs)

pub entry : {A : Type 0} (test : ℕ → A → Bool) (xs : List A) (d : A) → every test xs ≡ true → (k : ℕ) → k < length xs → test k (get_or xs k d) ≡ true
entry test [] d e k h = absurd (not-suc-le-zero h)
entry test (x ∷ xs) d e zero h = (both_true (test 0 x) (every (λ k. test (suc k)) xs) e).0
entry test (x ∷ xs) d e (suc k) h = entry (λ k. test (suc k)) xs d (both_true (test 0 x) (every (λ k. test (suc k)) xs) e).1 k (le_of_suc-le-suc h)
