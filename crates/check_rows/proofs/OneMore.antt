-- One turn more of the loops over the headings and over the columns of a row.
use mathlib.Core.Path.{◌≡◌, refl, ap, sym, ◌∙◌}
use mathlib.Core.Bool.{Bool, true, false, true≢false}
use mathlib.Core.List.{List}
use Prim.Native.Nat.{ℕ, zero, suc, ◌+◌, min, ◌≤◌, ◌<◌}
use native.Mathlib.Omega.{arith}
use native.Mathlib.Numerals.{add-one}
use native.Mathlib.Decide.{ℕ_discrete}
use Rattle.answers.specs.Bools.{pick}
use Rattle.std.specs.Prelude.{Option, Some, None, MatchOption}
use Rattle.table_theory.specs.Made.{Judged}
use Rattle.table_theory.specs.inner.First.{FirstWrong}
use Rattle.check_rows.specs.inner.Window.{offer_in, least_in, differs_at, differing}

pub least_more : (x : List ℕ) (c start k : ℕ) → least_in x c start (k + 1) ≡ min (least_in x c start k) (offer_in x c k)
unfolding least_in
least_more x c start k = ap (least_in x c start) (add-one k)

pub differing_more : (x : List ℕ) (goal first c : ℕ) → differing x goal first (c + 1) ≡ differing x goal first c + pick (differs_at x goal first c) 1 0
unfolding differing
differing_more x goal first c = ap (differing x goal first) (add-one c)

-- no more cells differ than there are
pub differing_low : (x : List ℕ) (goal first c : ℕ) → differing x goal first c ≤ c
unfolding differing
differing_low x goal first zero = omega arith
differing_low x goal first (suc c) = by (differs_at x goal first c) (differing_low x goal first c)
  where
    by : (b : Bool) → differing x goal first c ≤ c → differing x goal first c + pick b 1 0 ≤ suc c
    by true h = omega arith
    by false h = omega arith

-- what a turn of the count goes by
pub ruleset counting = (differing_more, differing_low)

-- where none differs, each is right
pub differing_zero : (x : List ℕ) (goal first n : ℕ) → differing x goal first n ≡ 0 → (c : ℕ) → c < n → differs_at x goal first c ≡ false
unfolding differing
differing_zero x goal first zero e c h = absurd (omega arith)
differing_zero x goal first (suc n) e c h =
    by (ℕ_discrete c n) (differing_zero x goal first n (omega arith)) (here (differs_at x goal first n) (omega arith))
  where
    here : (b : Bool) → pick {A = ℕ} b 1 0 ≡ 0 → b ≡ false
    here true k = absurd (omega arith)
    here false k = refl

    by : Dec (c ≡ n) → ((c : ℕ) → c < n → differs_at x goal first c ≡ false) → differs_at x goal first n ≡ false → differs_at x goal first c ≡ false
    by (yes k) all last = ap (differs_at x goal first) k ∙ last
    by (no k) all last = all c (omega arith)

-- all are right
pub all_judged : (Right : ℕ → Type 0) (n : ℕ) → ((y : ℕ) → y < n → Right y) → Judged Right n n
all_judged Right n all = record { within = omega arith; before = all; wrong = λ h. absurd (omega arith) }

-- the first of the numbers below n that passes a test
pub found_first : (test : ℕ → Bool) (n : ℕ) (r : Option ℕ)
    → MatchOption r ((k : ℕ) → 0 ≤ k → k < n → test k ≡ false)
    (λ i. (0 ≤ i) × (i < n) × (test i ≡ true) × ((k : ℕ) → 0 ≤ k → k < i → test k ≡ false))
    → FirstWrong (λ k. test k ≡ false) n r
found_first test n None all = all_judged (λ k. test k ≡ false) n (λ k h. all k (omega arith) h)
found_first test n (Some i) f = (
  f.1,
  record {
    within = omega arith;
    before = λ k h. f.3 k (omega arith) h;
    wrong = λ h e. true≢false (sym f.2 ∙ e);
  },
)
