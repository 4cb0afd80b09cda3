-- The map's bytes in the work array: each cell's place has the number of its bit, and all places between and around the
-- rows stay blocked.
use mathlib.Core.Path.{◌≡◌, refl, ap₂, sym, subst, subst₂, ◌∙◌}
use mathlib.Core.Bool.{Bool, true, false, not}
use mathlib.Core.List.{List}
use Prim.Native.Nat.{ℕ, zero, suc, ◌+◌, ◌-◌, ◌*◌, ◌/◌, ◌%◌, ◌≤◌, ◌<◌}
use native.Mathlib.Omega.{arith}
use native.Mathlib.Nat.{mul-le-mul_right}
use native.Mathlib.Decide.{dec_le, ℕ_discrete}
use lib.ListN.{get_or, length, set, length-set}
use lib.Dec.{ltb, eqb}
use borrow.Author.Tests.{lt-ltb, le-ltb}
use Rattle.answers.specs.Bools.{both}
use Rattle.floor.specs.Floor.{Map, bytes_per_row, bit, blocked, open?}
use Rattle.steps.specs.inner.Leading.{open_past}
use Rattle.floor.specs.inner.Ready.{SoundFloor}
use Rattle.fill_steps.specs.inner.Work.{unreached, stride, at, spot}
use Rattle.fill_load.specs.inner.Load.{number_of, loaded, ByteRun, Prefix, Cleared, Tall}
use Rattle.fill_steps.proofs.Changed.{waiting_set, waiting_none}
use Rattle.table_theory.proofs.Lists.{each}
use Rattle.fill_load.proofs.Kept.{CellsLoaded, BitsLoaded, RowsLoaded}

-- the bit of the cell in column c and row r
abbrev bit_at : Map → (c r : ℕ) → ℕ
bit_at m c r = bit (c % 8) (get_or m.bytes (r * bytes_per_row m.width + c / 8) 0)

number_bit : (b : ℕ) → b < 2 → number_of (not (eqb b 1)) ≡ (1 - b) * unreached
number_bit zero h = refl
number_bit (suc zero) h = refl
number_bit (suc (suc b)) h = absurd (omega arith)

both_false : (t : Bool) → number_of (both t false) ≡ 0
both_false true = refl
both_false false = refl

module _ (m : Map) (s : SoundFloor m) where
  -- the place of the cell in column c and row r
  loaded_cell : (c r : ℕ) → c < m.width → r < m.height → loaded m (spot c r) ≡ (1 - bit_at m c r) * unreached
  unfolding loaded open_past open? blocked
  loaded_cell c r p q =
      let n = s.wide in
      let e : spot c r % stride ≡ suc c = omega arith in
      let f : spot c r / stride ≡ suc r = omega arith in
      let c' : suc c - 1 ≡ c = omega arith in
      let r' : suc r - 1 ≡ r = omega arith in
      ap₂ (λ (u v : ℕ). number_of (open_past m u v)) e f
      ∙ rw (lt-ltb 0 (suc c) (omega arith), lt-ltb 0 (suc r) (omega arith), c', r', lt-ltb c m.width p, lt-ltb r m.height q)
      (number_bit (bit_at m c r) (omega arith))

  -- a place that is on no row or no column of the floor, a column and a row further
  module _ (z : ℕ) where
    abbrev Shut : Type 0
    Shut = number_of (open_past m (z % stride) (z / stride)) ≡ 0

    -- before the first column all is blocked, so the other columns decide
    by_column : (0 < z % stride → Shut) → loaded m z ≡ 0
    unfolding loaded open_past
    by_column other = by (ℕ_discrete (z % stride) 0)
      where
        by : Dec (z % stride ≡ 0) → Shut
        by (yes e) = rw e
        by (no e) = other (omega arith)

    -- between the rows
    loaded_gap : (r : ℕ) → spot m.width r ≤ z → z < spot 0 (r + 1) → loaded m z ≡ 0
    unfolding open_past open?
    loaded_gap r p q = by_column (λ o.
        let k : m.width ≤ z % stride - 1 = omega arith in
        rw (lt-ltb 0 (z % stride) o, le-ltb (z % stride - 1) m.width k) (both_false (ltb 0 (z / stride))))

    -- above the first row, and below the last
    loaded_top : z < stride + 1 → loaded m z ≡ 0
    unfolding open_past
    loaded_top q = by_column (λ o. let k : z / stride ≡ 0 = omega arith in rw (lt-ltb 0 (z % stride) o, k))

    loaded_bottom : spot 0 m.height ≤ z → loaded m z ≡ 0
    unfolding open_past open?
    loaded_bottom q = by_column (λ o.
        let k : m.height ≤ z / stride - 1 = omega arith in
        rw (lt-ltb 0 (z % stride) o, lt-ltb 0 (z / stride) (omega arith), le-ltb (z / stride - 1) m.height k)
        (both_false (ltb (z % stride - 1) m.width)))

  -- one cell more
  prefix_more : (c r : ℕ) (x : List ℕ) → c < m.width → r < m.height → Prefix m c r x
      → Prefix m (c + 1) r (set x (spot c r) ((1 - bit_at m c r) * unreached))
  prefix_more c r x p q i =
      let in_x : spot c r < length x = omega (arith, i.tall, s.wide) in
      record {
        tall = record { rows = omega (arith, i.tall, length-set x (spot c r) ((1 - bit_at m c r) * unreached)) };
        done =
            each 0 x (spot c r) _ in_x (λ z v. z < spot (c + 1) r → v ≡ loaded m z) (λ k. sym (loaded_cell c r p q))
            (λ z e k. i.done z (omega arith));
        rest = each 0 x (spot c r) _ in_x (λ z v. spot (c + 1) r ≤ z → v ≡ 0) (λ k. absurd (omega arith)) (λ z e k. i.rest z (omega arith));
        few = omega (arith, i.few, waiting_set x (spot c r) ((1 - bit_at m c r) * unreached) in_x);
      }

  pub prefix_none : (x : List ℕ) → Cleared x → Tall m x → Prefix m 0 0 x
  prefix_none x i tall = record {
    tall = tall;
    done = λ z p. i.done z ∙ sym (loaded_top z p);
    rest = λ z p. i.done z;
    few = omega (arith, waiting_none x i.done);
  }

  -- the places between two rows stay blocked
  pub prefix_row : (r : ℕ) (x : List ℕ) → Prefix m m.width r x → Prefix m 0 (r + 1) x
  prefix_row r x i = record {
    tall = i.tall;
    done = λ z p. by z p (dec_le (spot m.width r) z);
    rest = λ z p. i.rest z (omega (arith, s.wide));
    few = omega (arith, i.few);
  }
    where
      by : (z : ℕ) → z < spot 0 (r + 1) → Dec (spot m.width r ≤ z) → at x z ≡ loaded m z
      by z p (yes q) = i.rest z q ∙ sym (loaded_gap z r q p)
      by z p (no q) = i.done z (omega arith)

  pub prefix_all : (x : List ℕ) → Prefix m 0 m.height x → (z : ℕ) → at x z ≡ loaded m z
  prefix_all x i z = by (dec_le (spot 0 m.height) z)
    where
      by : Dec (spot 0 m.height ≤ z) → at x z ≡ loaded m z
      by (yes p) = i.rest z p ∙ sym (loaded_bottom z p)
      by (no p) = i.done z (omega arith)

  -- the byte of a run stands in the map
  pub byte_inside : (r c count : ℕ) → ByteRun m r c count → r * bytes_per_row m.width + c / 8 < length m.bytes
  byte_inside r c count u = omega (arith, s.size, u.column, mul-le-mul_right (bytes_per_row m.width) u.row)

  -- cell after cell of a byte
  cells_more :
      (x₀ : List ℕ) (c r n : ℕ) (x : List ℕ) → r < m.height → CellsLoaded m x₀ c r x → c < m.width → n ≡ (1 - bit_at m c r) * unreached
      → CellsLoaded m x₀ (c + 1) r (set x (spot c r) n)
  cells_more x₀ c r n x q i p e = record {
    inside = omega arith;
    size = length-set x (spot c r) n ∙ i.size;
    prefix = subst (λ (k : ℕ). Prefix m (c + 1) r (set x (spot c r) k)) (sym e) (prefix_more c r x p q i.prefix);
  }

  pub bits_more :
      (x₀ : List ℕ) (c r count i n : ℕ) (x : List ℕ) → ByteRun m r c count → BitsLoaded m x₀ c r count i x → i < count
      → n ≡ (1 - bit i (get_or m.bytes (r * bytes_per_row m.width + c / 8) 0)) * unreached
      → BitsLoaded m x₀ c r count (i + 1) (set x ((r + 1) * stride + c + 1 + i) n)
  bits_more x₀ c r count i n x u b less e =
      let place : spot (c + i) r ≡ (r + 1) * stride + c + 1 + i = omega arith in
      let next : c + i + 1 ≡ c + (i + 1) = omega arith in
      let remainder : i ≡ (c + i) % 8 = omega (arith, u.aligned, u.few) in
      let quotient : c / 8 ≡ (c + i) / 8 = omega (arith, u.aligned, u.few) in
      let same = ap₂ (λ (j k : ℕ). (1 - bit j (get_or m.bytes (r * bytes_per_row m.width + k) 0)) * unreached) remainder quotient in
      record {
        few = omega arith;
        cells =
            subst₂ (λ (j k : ℕ). CellsLoaded m x₀ k r (set x j n)) place next
            (cells_more x₀ (c + i) r n x u.row b.cells (omega (arith, u.inside)) (e ∙ same));
      }

-- none of a byte's cells, and all of them
pub bits_none : (m : Map) (x : List ℕ) (c r count : ℕ) → ByteRun m r c count → Prefix m c r x → BitsLoaded m x c r count 0 x
bits_none m x c r count u p =
    let e : c ≡ c + 0 = omega arith in
    record {
      few = omega arith;
      cells = record { inside = omega (arith, u.column); size = refl; prefix = subst (λ (k : ℕ). Prefix m k r x) e p };
    }

pub bits_all :
    (m : Map) (x₀ : List ℕ) (c r count i : ℕ) (x : List ℕ) → BitsLoaded m x₀ c r count i x → count ≤ i → Prefix m (c + count) r x
bits_all m x₀ c r count i x b p =
    let e : i ≡ count = omega (arith, b.few) in
    subst (λ (k : ℕ). Prefix m (c + k) r x) e b.cells.prefix

-- all cells of a row
pub row_done : (m : Map) (x : List ℕ) (k r : ℕ) → k ≡ m.width → Prefix m k r x → Prefix m m.width r x
row_done m x k r e p = subst (λ (c : ℕ). Prefix m c r x) e p

pub rows_all : (m : Map) (x₀ : List ℕ) (r : ℕ) (x : List ℕ) → RowsLoaded m x₀ r x → m.height ≤ r → Prefix m 0 m.height x
rows_all m x₀ r x i p = let e : r ≡ m.height = omega (arith, i.inside) in subst (λ (k : ℕ). Prefix m 0 k x) e i.prefix
