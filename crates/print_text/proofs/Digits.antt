-- A number in decimal is its tens in decimal, then its last digit: all that is known of `decimal` is shown by that.
use mathlib.Core.Path.{◌≡◌, sym, ap, ◌∙◌}
use mathlib.Core.List.{List, [], ◌∷◌, ◌++◌}
use mathlib.Core.Logic.{◌⊎◌, inl, inr, ⊎_elim}
use Prim.Native.Nat.{ℕ, zero, suc, ◌+◌, ◌/◌, ◌%◌, ◌^◌, ◌≤◌, ◌<◌}
use native.Mathlib.Omega.{arith}
use native.Mathlib.Nat.{div-lt_iff_lt-mul, pow-suc}
use native.Mathlib.Decide.{dec_lt}
use lib.ListN.{length, length-append}
use borrow.Author.Tests.{lt-ltb, le-ltb}
use Rattle.print_text.specs.Text.{digit, digits_within, decimal}

within_digit : (most n : ℕ) → n < 10 → digits_within (suc most) n ≡ digit n ∷ []
unfolding digits_within
within_digit most n h = rw (lt-ltb n 10 h, digits_within)

within_tens : (most n : ℕ) → 10 ≤ n → digits_within (suc most) n ≡ digits_within most (n / 10) ++ (digit (n % 10) ∷ [])
unfolding digits_within
within_tens most n h = rw (le-ltb n 10 h, digits_within)

small_or_tens : (n : ℕ) → (n < 10) ⊎ (10 ≤ n)
small_or_tens n = elim (dec_lt n 10) [ yes small ↦ inl small | no tens ↦ inr (omega arith) ]

-- what holds of the digits, and of a number if of its tens, holds of every number
pub by_tens : (P : ℕ → Type 0) → ((n : ℕ) → n < 10 → P n) → ((n : ℕ) → 10 ≤ n → P (n / 10) → P n) → (n : ℕ) → P n
by_tens P one more n = go (suc n) n (omega arith)
  where
    go : (bound m : ℕ) → m < bound → P m
    go zero m h = absurd (omega arith)
    go (suc bound) m h = ⊎_elim (one m) (λ g. more m g (go bound (m / 10) (omega arith))) (small_or_tens m)

-- more digits allowed than there are make no difference
within_enough : (n : ℕ) (most most' : ℕ) → n < most → n < most' → digits_within most n ≡ digits_within most' n
within_enough =
    by_tens (λ n. (most most' : ℕ) → n < most → n < most' → digits_within most n ≡ digits_within most' n) one more
  where
    one : (n : ℕ) → n < 10 → (most most' : ℕ) → n < most → n < most' → digits_within most n ≡ digits_within most' n
    one n s zero most' h h' = absurd (omega arith)
    one n s (suc most) zero h h' = absurd (omega arith)
    one n s (suc most) (suc most') h h' = within_digit most n s ∙ sym (within_digit most' n s)

    more : (n : ℕ) → 10 ≤ n
        → ((most most' : ℕ) → n / 10 < most → n / 10 < most' → digits_within most (n / 10) ≡ digits_within most' (n / 10))
        → (most most' : ℕ) → n < most → n < most' → digits_within most n ≡ digits_within most' n
    more n g tens zero most' h h' = absurd (omega arith)
    more n g tens (suc most) zero h h' = absurd (omega arith)
    more n g tens (suc most) (suc most') h h' = rw (within_tens most n g, within_tens most' n g, tens most most' (omega arith) (omega arith))

pub decimal_digit : (n : ℕ) → n < 10 → decimal n ≡ digit n ∷ []
unfolding decimal
decimal_digit n = within_digit n n

pub decimal_tens : (n : ℕ) → 10 ≤ n → decimal n ≡ decimal (n / 10) ++ (digit (n % 10) ∷ [])
unfolding decimal
decimal_tens n g = within_tens n n g ∙ ap (λ (l : List ℕ). l ++ (digit (n % 10) ∷ [])) (within_enough (n / 10) n (suc (n / 10)) (omega arith) (omega arith))

pub decimal_length_tens : (n : ℕ) → 10 ≤ n → length (decimal n) ≡ length (decimal (n / 10)) + 1
decimal_length_tens n g = ap length (decimal_tens n g) ∙ length-append (decimal (n / 10)) _

pub decimal_length_digit : (n : ℕ) → n < 10 → length (decimal n) ≡ 1
decimal_length_digit n h = ap length (decimal_digit n h)

-- a number below 10 to the power of so many has no more digits than that
pub decimal_room : (most n : ℕ) → n < 10 ^ suc most → length (decimal n) ≤ suc most
decimal_room zero n h = omega (arith, decimal_length_digit n h)
decimal_room (suc most) n h =
    ⊎_elim (λ s. omega (arith, decimal_length_digit n s))
    (λ g.
    omega (
      arith,
      decimal_length_tens n g,
      decimal_room most (n / 10) ((div-lt_iff_lt-mul (omega arith)).1 (rw (pow-suc 10 (suc most)) at h)),
    ))
    (small_or_tens n)
