-- Masks and bits: the mask of the bits from a place on, and that the bits past the width in a row are clear exactly if
-- its last byte is, from there on.
use mathlib.Core.Path.{◌≡◌, ◌∙◌, refl, sym}
use mathlib.Core.Bool.{Bool, true, false}
use mathlib.Core.List.{List, [], ◌∷◌}
use Prim.Native.Nat.{ℕ, zero, suc, ◌+◌, ◌-◌, ◌*◌, ◌/◌, ◌%◌, ◌^◌, ◌<◌}
use native.Mathlib.Nat.{zero-mul, suc-mul, pow-suc, zero-div}
use native.Mathlib.Omega.{arith}
use lib.Dec.{eqb, eqb-suc-zero}
use lib.Bits.{bit_and, and_high}
use lib.Pow.{shr_mod, pow_pos, shr-shr, shr_lt}
use lib.ListN.{get_or}
use borrow.Author.Tests.{ne_eqb, eqb-true, eqb-false}
use Rattle.floor.specs.Floor.{Map, bytes_per_row, blocked}
use Rattle.answers.specs.Bools.{some_below}
use Rattle.floor.specs.Refusals.{past_width}
use Rattle.floor.proofs.Entries.{entry}
use Rattle.answers.proofs.Bools.{none_at, none_from, some_passes}

-- the code's masks
unfoldable pub masks : List ℕ
masks = 255 ∷ 254 ∷ 252 ∷ 248 ∷ 240 ∷ 224 ∷ 192 ∷ 128 ∷ []

-- a mask and the power of its place make 256
mask : (k : ℕ) → k < 8 → get_or masks k 0 ≡ 2 ^ (8 - k + k) - 2 ^ k
unfolding masks
mask k h =
    let e : 8 - k + k ≡ 8 = omega arith in
    let q : get_or masks k 0 + 2 ^ k ≡ 256 = eqb-true _ _ (entry (λ (i x : ℕ). eqb (x + 2 ^ i) 256) masks 0 refl k h) in
    rw e (omega (arith, q))

same_zero : (q p : ℕ) → 0 < p → eqb (q * p) 0 ≡ eqb q 0
same_zero zero p h = rw zero-mul
same_zero (suc q) p h = ne_eqb (suc q * p) 0 (λ e. omega (arith, suc-mul q p)) ∙ sym (eqb-suc-zero q)

-- no bit under the mask is set exactly if the byte, shifted to the mask's place, is 0
pub clear : (byte k : ℕ) → byte < 256 → k < 8 → eqb (bit_and byte (get_or masks k 0)) 0 ≡ eqb (byte / 2 ^ k) 0
clear byte k small h =
    let e : 8 - k + k ≡ 8 = omega arith in
    let fits : byte < 2 ^ (8 - k + k) = rw e small in
    rw (mask k h, and_high byte (8 - k) k, shr_mod (8 - k) k fits) (same_zero (byte / 2 ^ k) (2 ^ k) (pow_pos k))

-- a number whose bits are all zero is zero
all_zero : (j n : ℕ) → n < 2 ^ j → ((i : ℕ) → i < j → n / 2 ^ i % 2 ≡ 0) → n ≡ 0
all_zero zero n h f = omega arith
all_zero (suc j) n h f =
    let a : n / 2 ^ 0 % 2 ≡ 0 = f 0 (omega arith) in
    let e : 2 ^ suc j ≡ 2 ^ j * 2 = pow-suc 2 j in
    let b : n / 2 < 2 ^ j = omega arith in
    let q : n / 2 ≡ 0 = all_zero j (n / 2) b (λ i lt. rw (shr-shr n 1 i) (f (1 + i) (omega arith))) in
    omega arith

-- every bit from place k on is zero exactly if the byte shifted to it is
bits_clear : (byte k : ℕ) → byte < 256 → k < 8 → ((i : ℕ) → i < 8 - k → byte / 2 ^ (k + i) % 2 ≡ 0) → byte / 2 ^ k ≡ 0
bits_clear byte k small h f =
    let e : 8 - k + k ≡ 8 = omega arith in
    let fits : byte < 2 ^ (8 - k + k) = rw e small in
    all_zero (8 - k) (byte / 2 ^ k) (shr_lt (8 - k) k fits) (λ i lt. rw (shr-shr byte k i) (f i lt))

clear_bits : (byte k i : ℕ) → byte / 2 ^ k ≡ 0 → byte / 2 ^ (k + i) % 2 ≡ 0
clear_bits byte k i e =
    let q : byte / 2 ^ (k + i) ≡ 0 / 2 ^ i = rw (← shr-shr byte k i, e) in
    let z : byte / 2 ^ (k + i) ≡ 0 = q ∙ zero-div _ in
    omega (arith, z)

-- some bit past the width is set in the row
abbrev pub past_row : Map → ℕ → Bool
past_row m row = some_below (λ k. blocked m (m.width + k) row) (8 * bytes_per_row m.width - m.width)

module _ (m : Map) (row : ℕ) (some : m.width % 8 ≡ 0 → ⊥) where
  -- the byte of the row in which the width ends
  abbrev last : ℕ
  last = get_or m.bytes (row * bytes_per_row m.width + m.width / 8) 0

  bit_past : (k : ℕ) → k < 8 * bytes_per_row m.width - m.width → blocked m (m.width + k) row ≡ eqb (last / 2 ^ (m.width % 8 + k) % 2) 1
  unfolding blocked
  bit_past k h =
      let place : (m.width + k) % 8 ≡ m.width % 8 + k = omega arith in
      let same : (m.width + k) / 8 ≡ m.width / 8 = omega arith in
      rw (place, same)

  -- a row has no bit set past the width exactly if its last byte is clear from there on
  pub row_clear : eqb (last / 2 ^ (m.width % 8)) 0 ≡ true → past_row m row ≡ false
  row_clear e =
      let z : last / 2 ^ (m.width % 8) ≡ 0 = eqb-true _ _ e in
      none_from (λ k. blocked m (m.width + k) row) _ (λ k h. rw (bit_past k h, clear_bits last (m.width % 8) k z))

  pub row_past : last < 256 → eqb (last / 2 ^ (m.width % 8)) 0 ≡ false → past_row m row ≡ true
  row_past small e = by (past_row m row) refl
    where
      zero_bit : (x : ℕ) → eqb (x % 2) 1 ≡ false → x % 2 ≡ 0
      zero_bit x f = omega (arith, eqb-false (x % 2) 1 f)

      by : (b : Bool) → past_row m row ≡ b → b ≡ true
      by true f = refl
      by false f =
          absurd (eqb-false _ _ e (bits_clear last (m.width % 8) small (omega arith)
          (λ i lt. zero_bit (last / 2 ^ (m.width % 8 + i))
          (sym (bit_past i (omega arith)) ∙ none_at (λ k. blocked m (m.width + k) row) (8 * bytes_per_row m.width - m.width) f i (omega arith)))))

module _ (m : Map) where
  -- the floor has one exactly if some row has
  pub none_past : ((row : ℕ) → row < m.height → past_row m row ≡ false) → past_width m ≡ false
  unfolding past_width
  none_past = none_from (past_row m) m.height

  pub some_past : (row : ℕ) → row < m.height → past_row m row ≡ true → past_width m ≡ true
  unfolding past_width
  some_past row h e = some_passes (past_row m) m.height row h e

  -- where a row fills its bytes no bit is past the width
  pub filled : m.width % 8 ≡ 0 → past_width m ≡ false
  filled e =
      let z : 8 * bytes_per_row m.width - m.width ≡ 0 = omega arith in
      none_past (λ row h. rw z)
