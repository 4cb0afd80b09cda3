-- Writing bytes, then more bytes at the place after them, is writing them all.
use mathlib.Core.Path.{◌≡◌, sym, ap, ap₂, ◌∙◌}
use mathlib.Core.List.{List, [], ◌∷◌, ◌++◌, append-nil, append_assoc}
use Prim.Native.Nat.{ℕ, ◌+◌, ◌≤◌, ◌<◌}
use native.Mathlib.Omega.{arith}
use native.Mathlib.Nat.{add-zero, add_assoc}
use native.Mathlib.Numerals.{add-one}
use native.Mathlib.Decide.{dec_le}
use lib.ListN.{length, take, drop, set, length-append, length-take, length-drop, take-append-drop, drop_of_length-le}
use lib.Seq.{take_all, take_at, drop_at, drop-drop, set_split, append_snoc}
use Rattle.print_text.specs.Put.{put, Put}

pub put_nothing : (old : List ℕ) (at : ℕ) → put old at [] ≡ old
unfolding put
put_nothing old at = rw (append-nil, add-zero) (take-append-drop at old)

pub length_put : (old : List ℕ) (at : ℕ) (bytes : List ℕ) → at + length bytes ≤ length old → length (put old at bytes) ≡ length old
unfolding put
length_put old at bytes room = simp (length-append, length-take, length-drop) (omega arith)

-- storing one byte
pub put_byte : (old : List ℕ) (at byte : ℕ) → at < length old → set old at byte ≡ put old at (byte ∷ [])
unfolding put
put_byte old at byte room = set_split old at byte room ∙ simp (append_snoc, add-one)

-- where the place is at the end or past it, the bytes follow all that was there
put_past : (old : List ℕ) (at : ℕ) (bytes : List ℕ) → length old ≤ at → put old at bytes ≡ old ++ bytes
unfolding put
put_past old at bytes past = rw (take_all at old past, drop_of_length-le old {i = at + length bytes} (omega arith), append-nil)

module _ (old : List ℕ) (at : ℕ) (bytes : List ℕ) (within : at ≤ length old) where
  -- what stands up to the end of the bytes, and after it
  put_upto : take (at + length bytes) (put old at bytes) ≡ take at old ++ bytes
  unfolding put
  put_upto = take_at (take at old ++ bytes) (drop (at + length bytes) old) (at + length bytes) (simp (length-append, length-take) (omega arith))

  put_after : (n : ℕ) → drop (at + length bytes + n) (put old at bytes) ≡ drop (at + length bytes + n) old
  unfolding put
  put_after n =
      sym (drop-drop n (at + length bytes) (put old at bytes))
      ∙ ap (drop n) (drop_at (take at old ++ bytes) (drop (at + length bytes) old) (at + length bytes) (simp (length-append, length-take) (omega arith)))
      ∙ drop-drop n (at + length bytes) old

put_within : (old : List ℕ) (at : ℕ) (a b : List ℕ) → at ≤ length old → put (put old at a) (at + length a) b ≡ put old at (a ++ b)
unfolding put
put_within old at a b within = rw (put_upto old at a within, put_after old at a within (length b), length-append, add_assoc) (simp append_assoc)

pub put_put : (old : List ℕ) (at : ℕ) (a b : List ℕ) → put (put old at a) (at + length a) b ≡ put old at (a ++ b)
put_put old at a b =
    elim (dec_le at (length old)) [
      | yes within ↦ put_within old at a b within
      | no past ↦
          let end : length old ≤ at = omega arith in
          rw (put_past old at a end, put_past old at (a ++ b) end, put_past (old ++ a) (at + length a) b (simp length-append (omega arith)), append_assoc)
    ]

pub none_put : {old : List ℕ} {at : ℕ} → Put old at [] old at
none_put {old} {at} = record { written = sym (put_nothing old at); follows = omega arith }

pub put_then : {old mid new a b : List ℕ} {at next after : ℕ} → Put old at a mid next → Put mid next b new after → Put old at (a ++ b) new after
put_then {old} {mid} {new} {a} {b} {at} {next} {after} first second =
    record {
      written = second.written ∙ ap₂ (λ (l : List ℕ) (p : ℕ). put l p b) first.written first.follows ∙ put_put old at a b;
      follows = omega (arith, first.follows, second.follows, length-append a b);
    }

-- a buffer that was written from its front begins with what was written
pub written_front : {old bytes new : List ℕ} {next : ℕ} → Put old 0 bytes new next → take next new ≡ bytes
unfolding put
written_front {old} {bytes} p = rw (p.written, p.follows) (take_at bytes (drop (0 + length bytes) old) (0 + length bytes) (omega arith))
