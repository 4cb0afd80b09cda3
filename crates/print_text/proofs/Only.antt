-- `decimal n` is n in decimal, and nothing else is: both by taking the last digit off.
use mathlib.Core.Path.{◌≡◌, refl, sym, ap, ap₂, ◌∙◌, subst}
use mathlib.Core.List.{List, [], ◌∷◌, ◌++◌, append-nil}
use mathlib.Core.Logic.{⊎_elim}
use Prim.Native.Nat.{ℕ, zero, suc, ◌+◌, ◌-◌, ◌*◌, ◌/◌, ◌%◌, ◌≤◌, ◌<◌}
use native.Mathlib.Omega.{arith}
use native.Mathlib.Nat.{div-add-mod', eq-or-lt_of_le}
use lib.Arith.{digits_div, digits_mod}
use lib.ListN.{length, get_or, length-append, get_or-append}
use lib.Seq.{get_or-append_seam, get_or_at, append_snoc}
use Rattle.print_text.specs.Text.{digit, decimal}
use Rattle.print_text.proofs.Digits.{by_tens, decimal_digit, decimal_tens}

-- what digits stand for, read from the front, after others that stand for so much
abbrev pub read_after : ℕ → List ℕ → ℕ
read_after before [] = before
read_after before (d ∷ ds) = read_after (before * 10 + (d - 48)) ds

-- what it is to be a number in decimal: bytes from "0" to "9", at least one, the first of several not "0", that stand for the number
pub record Decimal (n : ℕ) (bytes : List ℕ) : Type 0 where
  pub digits : (i : ℕ) → i < length bytes → (48 ≤ get_or bytes i 0) × (get_or bytes i 0 ≤ 57)
  pub some : 0 < length bytes
  pub no_leading_zero : 1 < length bytes → 48 < get_or bytes 0 0
  pub reads : read_after 0 bytes ≡ n

-- what holds of no bytes, and of one more byte at the end, holds of all
from_front : (P : List ℕ → Type 0) → P [] → ((l : List ℕ) (d : ℕ) → P l → P (l ++ (d ∷ []))) → (l : List ℕ) → P l
from_front P none more l = go [] l none
  where
    go : (a b : List ℕ) → P a → P (a ++ b)
    go a [] p = rw append-nil p
    go a (d ∷ b) p = rw append_snoc at (go (a ++ (d ∷ [])) b (more a d p))

reads_last : (before : ℕ) (l : List ℕ) (d : ℕ) → read_after before (l ++ (d ∷ [])) ≡ read_after before l * 10 + (d - 48)
reads_last before [] d = refl
reads_last before (x ∷ l) d = reads_last (before * 10 + (x - 48)) l d

reads_least : (before : ℕ) (l : List ℕ) → before ≤ read_after before l
reads_least before [] = omega arith
reads_least before (x ∷ l) = omega (arith, reads_least (before * 10 + (x - 48)) l)

-- digits of which the first is not "0" stand for more than nothing
reads_some : (l : List ℕ) → 48 < get_or l 0 0 → 0 < read_after 0 l
reads_some [] h = absurd (omega arith)
reads_some (x ∷ l) h = omega (arith, reads_least (0 * 10 + (x - 48)) l)

-- the first digit of a number that is not 0 is not "0"
first_some : {n : ℕ} (l : List ℕ) → Decimal n l → 0 < n → 48 < get_or l 0 0
first_some [] w h = absurd (omega (arith, w.some))
first_some (x ∷ []) w h = omega (arith, w.reads)
first_some (x ∷ y ∷ l) w h = w.no_leading_zero (omega arith)

one_digit : (n : ℕ) → n < 10 → Decimal n (digit n ∷ [])
one_digit n h = record { digits = at; some = omega arith; no_leading_zero = λ more. absurd (omega arith); reads = omega arith }
  where
    at : (i : ℕ) → i < 1 → (48 ≤ get_or (digit n ∷ []) i 0) × (get_or (digit n ∷ []) i 0 ≤ 57)
    at zero b = omega arith
    at (suc i) b = absurd (omega arith)

more_digits : {n : ℕ} (l : List ℕ) (d : ℕ) → 0 < n → d < 10 → Decimal n l → Decimal (n * 10 + d) (l ++ (digit d ∷ []))
more_digits {n} l d h s w =
    record {
      digits = at;
      some = simp length-append (omega arith);
      no_leading_zero = λ more. rw (get_or-append l (digit d ∷ []) 0 0 w.some) (first_some l w h);
      reads = omega (arith, reads_last 0 l (digit d), w.reads);
    }
  where
    at : (i : ℕ) → i < length (l ++ (digit d ∷ [])) → (48 ≤ get_or (l ++ (digit d ∷ [])) i 0) × (get_or (l ++ (digit d ∷ [])) i 0 ≤ 57)
    at i b =
        ⊎_elim (λ e. rw (get_or_at l (digit d) [] 0 i (sym e)) (omega arith)) (λ p. rw (get_or-append l (digit d ∷ []) 0 i p) (w.digits i p))
        (eq-or-lt_of_le (omega (arith, length-append l (digit d ∷ []))))

pub decimal_is : (n : ℕ) → Decimal n (decimal n)
decimal_is =
    by_tens (λ n. Decimal n (decimal n)) (λ n s. rw (decimal_digit n s) (one_digit n s))
    (λ n g tens.
    rw (decimal_tens n g)
    (subst (λ m. Decimal m (decimal (n / 10) ++ (digit (n % 10) ∷ []))) (div-add-mod' n 10)
    (more_digits (decimal (n / 10)) (n % 10) (omega arith) (omega arith) tens)))

-- all but the last of several digits are what they stand for in decimal, and the last is a digit
fewer_digits : {n : ℕ} (l : List ℕ) (d : ℕ) → 0 < length l → Decimal n (l ++ (d ∷ [])) → Decimal (read_after 0 l) l
fewer_digits l d some w =
    record {
      digits = λ i h. rw (get_or-append l (d ∷ []) 0 i h) at (w.digits i (omega (arith, length-append l (d ∷ []))));
      some = some;
      no_leading_zero = λ more. rw (get_or-append l (d ∷ []) 0 0 some) at (w.no_leading_zero (omega (arith, length-append l (d ∷ []))));
      reads = refl;
    }

last_digit : {n : ℕ} (l : List ℕ) (d : ℕ) → Decimal n (l ++ (d ∷ [])) → (48 ≤ d) × (d ≤ 57)
last_digit l d w = rw (get_or-append_seam l d [] 0) at (w.digits (length l) (omega (arith, length-append l (d ∷ []))))

decimal_more : (n d : ℕ) → 0 < n → d < 10 → decimal (n * 10 + d) ≡ decimal n ++ (digit d ∷ [])
decimal_more n d h s = decimal_tens (n * 10 + d) (omega arith) ∙ rw (digits_div n s, digits_mod n s)

pub decimal_only : (l : List ℕ) (n : ℕ) → Decimal n l → l ≡ decimal n
decimal_only = from_front (λ l. (n : ℕ) → Decimal n l → l ≡ decimal n) (λ n w. absurd (omega (arith, w.some))) more
  where
    more : (l : List ℕ) (d : ℕ) → ((n : ℕ) → Decimal n l → l ≡ decimal n) → (n : ℕ) → Decimal n (l ++ (d ∷ [])) → l ++ (d ∷ []) ≡ decimal n
    more [] d fewer n w =
        let last = last_digit [] d w in
        let same : digit n ≡ d = omega (arith, w.reads) in
        sym (decimal_digit n (omega arith) ∙ ap (λ (b : ℕ). b ∷ []) same)
    more (x ∷ l) d fewer n w =
        let last = last_digit (x ∷ l) d w in
        let tens : ℕ = read_after 0 (x ∷ l) in
        let front = fewer_digits (x ∷ l) d (omega arith) w in
        let some : 0 < tens = reads_some (x ∷ l) (w.no_leading_zero (simp length-append (omega arith))) in
        let same : digit (d - 48) ≡ d = omega arith in
        ap₂ (λ (a : List ℕ) (b : ℕ). a ++ (b ∷ [])) (fewer tens front) (sym same)
        ∙ sym (decimal_more tens (d - 48) some (omega arith))
        ∙ ap decimal (sym (reads_last 0 (x ∷ l) d) ∙ w.reads)
