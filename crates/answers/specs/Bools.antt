-- Choosing by a test, and tests joined: two of them, or one over the numbers below a number.
use Rattle.std.specs.Prelude.{Bool, true, false, ℕ, zero, suc}

-- one of two, by a test
abbrev pub pick : {A : Type 0} → Bool → A → A → A
pick true a b = a
pick false a b = b

-- either of two tests
abbrev pub either : Bool → Bool → Bool
either true b = true
either false b = b

-- both of two tests
abbrev pub both : Bool → Bool → Bool
both true b = b
both false b = false

-- some number below n passes the test
abbrev pub some_below : (ℕ → Bool) → ℕ → Bool
some_below test zero = false
some_below test (suc n) = either (some_below test n) (test n)

-- all numbers below n pass the test
abbrev pub all_below : (ℕ → Bool) → ℕ → Bool
all_below test zero = true
all_below test (suc n) = both (all_below test n) (test n)

-- how many of the first n pass the test, up to the first that does not
abbrev pub run : (ℕ → Bool) → ℕ → ℕ
run test zero = 0
run test (suc n) = pick (test 0) (suc (run (λ i. test (suc i)) n)) 0
