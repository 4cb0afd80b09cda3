-- The number of a cell: which entry it stands for, that open cells stand below the wall and blocked ones not, and that
-- the lesser of two entries has the lesser number.
use mathlib.Core.Path.{◌≡◌, refl, ap, ap₂, sym, ◌∙◌}
use mathlib.Core.Bool.{Bool, true, false, not, true≢false, false≢true}
use mathlib.Core.List.{List}
use Prim.Native.Nat.{ℕ, ◌+◌, ◌-◌, ◌/◌, ◌%◌, min, ◌≤◌, ◌<◌}
use native.Mathlib.Omega.{arith}
use lib.Dec.{T as Holds, ltb, eqb}
use lib.Arith.{digits_lt}
use lib.ListN.{get_or, length}
use borrow.Author.Tests.{eqb-true, lt-ltb, ltb-true}
use Rattle.answers.specs.Bools.{pick, both}
use Rattle.lengths.specs.Answers.{way_part, part_above}
use Rattle.lengths.specs.inner.AtMost.{Within}
use Rattle.lengths.specs.Order.{◌⊑◌, shorter}
use Rattle.lengths.proofs.Order.{◌⊏◌, ⊏-⊑, shorter_yes, shorter_no}
use Rattle.lengths.specs.inner.Keys.{key}
use Rattle.lengths.proofs.Keys.{order_key}
use Rattle.lengths.proofs.Tested.{small_parts, parts_small}
use Rattle.floor.specs.Floor.{Map, blocked, open?, cell_of, cells}
use Rattle.steps.specs.inner.Leading.{open_past}
use Rattle.answers.proofs.Bools.{both_true}
use Rattle.table_theory.specs.Entry.{Entry, mark, long, parts_of, malformed, read}
use Rattle.table_theory.specs.inner.Best.{lesser}
use Rattle.table_theory.proofs.Lists.{get_or_any}
use Rattle.check_rows.specs.inner.Level.{none, wall, key_of, not_mark, open_number, number_of, on_floor, number_at}

-- what an entry is, and its number in an open cell
pub data EntryKind (v : ℕ) : Type 0 where
  the_mark : v ≡ 4294967295 → read v ≡ mark → open_number v ≡ none → EntryKind v
  bad : malformed v ≡ true → read v ≡ mark → open_number v ≡ none + 1 → EntryKind v
  good : malformed v ≡ false → Within (parts_of v) → read v ≡ long (parts_of v) → open_number v ≡ key (parts_of v) → EntryKind v

pub kind : (v : ℕ) → EntryKind v
unfolding read open_number
kind v = by (eqb v 4294967295) (part_above way_part (parts_of v)) refl refl
  where
    by : (s t : Bool) → eqb v 4294967295 ≡ s → part_above way_part (parts_of v) ≡ t → EntryKind v
    by true true p q = the_mark (eqb-true v 4294967295 p) (rw q) (rw (q, p))
    by false true p q = bad (rw (p, q)) (rw q) (rw (q, p))
    by true false p q = good (rw p) (small_parts way_part (parts_of v) q) (rw q) (rw q)
    by false false p q = good (rw (p, q)) (small_parts way_part (parts_of v) q) (rw q) (rw q)

-- the number of an open cell, as the code tells parts in their limits by whole quotients
pub open_good : (v : ℕ) → v / 65536 / 16384 + v % 65536 / 16384 ≡ 0 → open_number v ≡ key (parts_of v)
unfolding open_number
open_good v e = rw (parts_small way_part (parts_of v) (omega arith))

pub open_bad : (v : ℕ) → (v / 65536 / 16384 + v % 65536 / 16384 ≡ 0 → ⊥) → open_number v ≡ none + not_mark v
unfolding open_number
open_bad v e = by (part_above way_part (parts_of v)) refl
  where
    by : (t : Bool) → part_above way_part (parts_of v) ≡ t → pick t (none + not_mark v) (key (parts_of v)) ≡ none + not_mark v
    by true p = refl
    by false p = let w = small_parts way_part (parts_of v) p in absurd (e (omega arith))

-- an open cell's number is below the wall
pub open_low : (v : ℕ) → open_number v < wall
open_low v = by (kind v)
  where
    by : EntryKind v → open_number v < wall
    by (the_mark e r n) = omega arith
    by (bad e r n) = omega arith
    by (good e w r n) = omega arith

pub not_mark_low : (v : ℕ) → not_mark v ≤ 1
not_mark_low v = by (eqb v 4294967295)
  where
    by : (t : Bool) → pick {A = ℕ} t 0 1 ≤ 1
    by true = omega arith
    by false = omega arith

-- where a cell is open, its number is below the wall, else it is not
pub record ByWall (free : Bool) (n : ℕ) : Type 0 where
  pub below : free ≡ true → n < wall
  pub above : free ≡ false → wall ≤ n
  pub low : n ≤ wall + 1

pub record NumberPlaced (free : Bool) (v n : ℕ) : Type 0 where
  pub stands : ByWall free n
  pub same : free ≡ true → n ≡ open_number v

off : (v n : ℕ) → wall ≤ n → n ≤ wall + 1 → NumberPlaced false v n
off v n p q = record { stands = record { below = λ e. absurd (false≢true e); above = λ e. p; low = q }; same = λ e. absurd (false≢true e) }

placed : (a b d e f : Bool) (v : ℕ) → NumberPlaced (both a (both b (both d (both e (not f))))) v (pick (both a (both b (both d e))) (number_of f v) wall)
unfolding number_of
placed false b d e f v = off v wall (omega arith) (omega arith)
placed true false d e f v = off v wall (omega arith) (omega arith)
placed true true false e f v = off v wall (omega arith) (omega arith)
placed true true true false f v = off v wall (omega arith) (omega arith)
placed true true true true true v = off v (wall + not_mark v) (omega arith) (omega (arith, not_mark_low v))
placed true true true true false v = record {
  stands = record {
    below = λ p. open_low v;
    above = λ p. absurd (true≢false p);
    low = omega
        (arith, open_low v);
  };
  same = λ p. refl;
}

-- the number at a column and a row, counted from one further
pub number_placed : (m : Map) (t : List ℕ) (c r : ℕ) → NumberPlaced (open_past m c r) (get_or t (cell_of m (c - 1) (r - 1)) 4294967295) (number_at m t c r)
unfolding open_past open? on_floor number_at
number_placed m t c r =
    placed (ltb 0 c) (ltb 0 r) (ltb (c - 1) m.width) (ltb (r - 1) m.height) (blocked m (c - 1) (r - 1)) (get_or t (cell_of m (c - 1) (r - 1)) 4294967295)

-- no number is above that of a blocked cell
pub number_low : (m : Map) (t : List ℕ) (c r : ℕ) → number_at m t c r ≤ wall + 1
number_low m t c r = (number_placed m t c r).stands.low

-- the number of a cell on the floor
pub number_on : (m : Map) (t : List ℕ) (c r : ℕ) → c < m.width → r < m.height
    → number_at m t (c + 1) (r + 1) ≡ number_of (blocked m c r) (get_or t (cell_of m c r) 4294967295)
unfolding on_floor number_at
number_on m t c r p q =
    let c' : c + 1 - 1 ≡ c = omega arith in
    let r' : r + 1 - 1 ≡ r = omega arith in
    rw (lt-ltb 0 (c + 1) (omega arith), lt-ltb 0 (r + 1) (omega arith), c', r', lt-ltb c m.width p, lt-ltb r m.height q)

-- the number that is made of the bit and the entry that are read
pub number_read : (m : Map) (t : List ℕ) (c r x : ℕ) (b : Bool) → length t ≡ cells m → c < m.width → r < m.height → b ≡ blocked m c r
    → x ≡ cell_of m c r → number_of b (get_or t x 0) ≡ number_at m t (c + 1) (r + 1)
number_read m t c r x b size p q e f =
    let within : x < length t = omega (arith, digits_lt q p) in
    ap₂ number_of e (get_or_any t x 0 4294967295 within ∙ ap (λ (z : ℕ). get_or t z 4294967295) f) ∙ sym (number_on m t c r p q)

-- a cell on the floor is open where it is not blocked
pub open_on : (m : Map) (c r : ℕ) → c < m.width → r < m.height → open_past m (c + 1) (r + 1) ≡ not (blocked m c r)
unfolding open_past open?
open_on m c r p q =
    let c' : c + 1 - 1 ≡ c = omega arith in
    let r' : r + 1 - 1 ≡ r = omega arith in
    rw (lt-ltb 0 (c + 1) (omega arith), lt-ltb 0 (r + 1) (omega arith), c', r', lt-ltb c m.width p, lt-ltb r m.height q)

-- a column and a row off the floor
pub data Off (m : Map) (c r : ℕ) : Type 0 where
  west : c ≡ 0 → Off m c r
  north : r ≡ 0 → Off m c r
  east : m.width < c → Off m c r
  south : m.height < r → Off m c r

stays_on_floor : (m : Map) (c r : ℕ) → on_floor m c r ≡ true → Off m c r → ⊥
unfolding on_floor
stays_on_floor m c r e o =
    let p = both_true (ltb 0 c) _ e in
    let q = both_true (ltb 0 r) _ p.1 in
    let k = both_true (ltb (c - 1) m.width) (ltb (r - 1) m.height) q.1 in
    by o (ltb-true 0 c p.0) (ltb-true 0 r q.0) (ltb-true (c - 1) m.width k.0) (ltb-true (r - 1) m.height k.1)
  where
    by : Off m c r → 0 < c → 0 < r → c - 1 < m.width → r - 1 < m.height → ⊥
    by (west e) a b d f = omega arith
    by (north e) a b d f = omega arith
    by (east e) a b d f = omega arith
    by (south e) a b d f = omega arith

pub number_off : (m : Map) (t : List ℕ) (c r : ℕ) → Off m c r → number_at m t c r ≡ wall
unfolding number_at
number_off m t c r o = by (on_floor m c r) refl
  where
    by : (b : Bool) → on_floor m c r ≡ b → pick b (number_of (blocked m (c - 1) (r - 1)) (get_or t (cell_of m (c - 1) (r - 1)) 4294967295)) wall ≡ wall
    by true e = absurd (stays_on_floor m c r e o)
    by false e = refl

-- the row below the last
pub number_below : (m : Map) (t : List ℕ) (c r : ℕ) → m.height < r → number_at m t c r ≡ wall
number_below m t c r h = number_off m t c r (south h)

-- each part at most 16,384, as in what the neighbours make a cell
abbrev pub SmallEntry : Entry → Type 0
SmallEntry mark = Unit {0}
SmallEntry (long a) = (a.straight ≤ 16384) × (a.diagonal ≤ 16384)

pub key_low : (e : Entry) → SmallEntry e → key_of e ≤ none
key_low mark s = omega arith
key_low (long a) s = omega arith

-- the lesser entry has the lesser number
pub key_lesser : (e f : Entry) → SmallEntry e → SmallEntry f → key_of (lesser e f) ≡ min (key_of e) (key_of f)
key_lesser mark f s u = omega (arith, key_low f u)
key_lesser (long a) mark s u = omega arith
key_lesser (long a) (long b) s u = by (shorter b a) (shorter_yes b a) (shorter_no b a)
  where
    by : (t : Bool) → (Holds t → b ⊏ a) → (Holds (not t) → a ⊑ b) → key_of (pick t (long b) (long a)) ≡ min (key a) (key b)
    by true p q = omega (arith, order_key b a (omega arith) (⊏-⊑ (p tt)))
    by false p q = omega (arith, order_key a b (omega arith) (q tt))
