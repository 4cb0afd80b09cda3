-- The parts of the length that a number stands for, as the code finds them; and the table's entries, row after row.
use mathlib.Core.Path.{◌≡◌, ap, ap₂, sym, subst, ◌∙◌}
use mathlib.Core.Logic.{◌≢◌}
use mathlib.Core.List.{List}
use Prim.Native.Nat.{ℕ, ◌+◌, ◌-◌, ◌*◌, ◌/◌, ◌%◌, ◌≤◌, ◌<◌}
use native.Mathlib.Omega.{arith}
use native.Mathlib.Nat.{add-mul, mul-le-mul, mul-le-mul_right, mod-eq_of_lt, mul-add-mod_self_right}
use lib.Arith.{digits_div, digits_mod}
use Rattle.lengths.specs.declared.Length.{Length}
use Rattle.lengths.specs.inner.Keys.{straight_key, diagonal_key, key, straight_of, diagonal_of}
use Rattle.lengths.proofs.Keys.{pair_back}
use Rattle.table_theory.specs.Entry.{mark, pack}
use Rattle.table_theory.specs.inner.Written.{Written}
use Rattle.table_theory.proofs.Writing.{written_as, written_on}
use Rattle.fill_steps.specs.inner.Work.{unreached, span, raise, goal_number}
use Rattle.fill_entries.specs.inner.Entries.{key_of, goal_key, entry_of, InBand, Keyed, Settled, entry_in, entry_of_cell}
use Rattle.fill_entries.proofs.NumberKinds.{NumberKind, shut, waits, reached, kind}

pub packed_shut : (v : ℕ) → v ≡ 0 → pack mark ≡ pack (entry_of v)
packed_shut v e = by (kind v)
  where
    by : NumberKind v → pack mark ≡ pack (entry_of v)
    by (shut d p) = ap pack (sym p)
    by (waits d p) = ap pack (sym p)
    by (reached o f p) = absurd (omega arith)

pub packed_waits : (v : ℕ) → unreached ≤ v → pack mark ≡ pack (entry_of v)
packed_waits v e = by (kind v)
  where
    by : NumberKind v → pack mark ≡ pack (entry_of v)
    by (shut d p) = ap pack (sym p)
    by (waits d p) = ap pack (sym p)
    by (reached o f p) = absurd (omega arith)

pub packed_length : (v : ℕ) → v ≢ 0 → v < unreached
    → straight_of (key_of v - goal_key) * 65536 + diagonal_of (key_of v - goal_key) ≡ pack (entry_of v)
packed_length v e f = by (kind v)
  where
    by : NumberKind v → straight_of (key_of v - goal_key) * 65536 + diagonal_of (key_of v - goal_key) ≡ pack (entry_of v)
    by (shut d p) = absurd (e d)
    by (waits d p) = absurd (omega arith)
    by (reached o g p) = ap pack (sym p)

-- how the code divides 5741 times a remainder by 13860: nearly by a product, and m is how often 13860 goes into what is
-- left
abbrev near : ℕ → ℕ
near r = r * 27145 / 65536

abbrev left : ℕ → ℕ
left r = r * 5741 - near r * straight_key

record Divided (r m : ℕ) : Type 0 where
  less : left r - m * straight_key < straight_key
  sum : r * 5741 ≡ (near r + m) * straight_key + (left r - m * straight_key)

divided : (r m : ℕ) → r < span → m ≡ left r / straight_key → Divided r m
divided r m b e = record { less = omega arith; sum = omega arith }

-- so what remains is the diagonal part of a key with this remainder, since 5741 · 19601 = 13860 · 8119 + 1
remains : (n r t d : ℕ) → r < straight_key → d < straight_key → r * 5741 ≡ t * straight_key + d → diagonal_of (straight_key * n + r) ≡ d
remains n r t d b less sum =
    let rest : (straight_key * n + r) % straight_key ≡ r = omega arith in
    let again : r * diagonal_key ≡ (t + r) * straight_key + d = omega arith in
    ap (λ (z : ℕ). z * diagonal_key % straight_key) rest ∙ ap (λ (z : ℕ). z % straight_key) again
    ∙ mul-add-mod_self_right (t + r) straight_key d ∙ mod-eq_of_lt less

-- and the straight part is what the diagonal steps leave
balance : (n r t d s : ℕ) → straight_key * n + r ≡ straight_key * s + diagonal_key * d → r * 5741 ≡ t * straight_key + d
    → n + diagonal_key * t ≡ s + 8119 * r
balance n r t d s e f = omega arith

-- how far a number is above the goal's, as the code takes it apart: one band less, and the remainder without the raise
abbrev band : ℕ → ℕ
band v = (v - goal_number) / span

abbrev rest : ℕ → ℕ
rest v = (v - goal_number) % span

pub record OverGoal (v : ℕ) : Type 0 where
  pub from : goal_number ≤ v
  pub band : v / span ≡ band v + 1
  pub rest : v % span ≡ rest v + raise

apart : (v : ℕ) → InBand v → goal_number ≤ v → OverGoal v
apart v p h =
    let e : v / span ≡ band v + 1 = omega (arith, p) in
    record { from = h; band = e; rest = omega (arith, p, e) }

pub above : (v : ℕ) → Settled v → v ≢ 0 → v < unreached → OverGoal v
above v r e f = let k = r.keyed (omega arith) f in apart v k.in_band (omega (arith, k.sum, k.in_band))

-- the parts of the key that a number stands for, as the code finds them; they can be packed
pub record FoundParts (v m : ℕ) : Type 0 where
  pub diagonal : left (rest v) - m * straight_key ≡ diagonal_of (key_of v - goal_key)
  pub straight : band v + diagonal_key * (near (rest v) + m) ≡ straight_of (key_of v - goal_key) + 8119 * rest v
  pub few : straight_of (key_of v - goal_key) < 17000

pub parts : (v m : ℕ) → Settled v → v ≢ 0 → v < unreached → m ≡ left (rest v) / straight_key → FoundParts v m
parts v m r e f is = record {
  diagonal = sym here;
  straight = even ∙ ap (λ (z : ℕ). z + 8119 * rest v) (sym there_straight);
  few = subst (λ (z : ℕ). z < 17000) (sym there_straight) bounds.1;
}
  where
    k : Keyed v
    k = r.keyed (omega arith) f

    l : Length
    l = k.size

    d : Divided (rest v) m
    d = divided (rest v) m (omega arith) is

    a : OverGoal v
    a = above v r e f

    bounds : (l.diagonal < straight_key) × (l.straight < 17000)
    bounds = omega (arith, k.sum, k.in_band, r.below f)

    same : key_of v - goal_key ≡ key l
    same = omega (arith, k.sum)

    parted : key_of v - goal_key ≡ straight_key * band v + rest v
    parted = omega (arith, a.band, a.rest)

    here : diagonal_of (key_of v - goal_key) ≡ left (rest v) - m * straight_key
    here = ap diagonal_of parted ∙ remains (band v) (rest v) (near (rest v) + m) _ (omega (arith, a.rest, k.in_band)) d.less d.sum

    there : diagonal_of (key_of v - goal_key) ≡ l.diagonal
    there = ap diagonal_of same ∙ ap (λ (z : Length). z.diagonal) (pair_back l bounds.0)

    there_straight : straight_of (key_of v - goal_key) ≡ l.straight
    there_straight = ap straight_of same ∙ ap (λ (z : Length). z.straight) (pair_back l bounds.0)

    even : band v + diagonal_key * (near (rest v) + m) ≡ l.straight + 8119 * rest v
    even =
        balance (band v) (rest v) (near (rest v) + m) (left (rest v) - m * straight_key) l.straight
        (sym parted ∙ same ∙ ap (λ (z : ℕ). straight_key * l.straight + diagonal_key * z) (sym there ∙ here)) d.sum

-- straight and diagonal parts of this size fit into an entry
pub packs : (s d : ℕ) → s < 17000 → d < 17000 → s * 65536 + d < 4294967296
packs s d few less = omega arith

-- an entry's place is in the table, and fits
pub record InTable (w h c r : ℕ) : Type 0 where
  pub inside : r * w + c < h * w
  pub small : h * w ≤ 16384

pub in_table : (w h c r : ℕ) → w ≤ 128 → h ≤ 128 → c < w → r < h → InTable w h c r
in_table w h c r p q a b = record { inside = omega (arith, mul-le-mul_right w b); small = mul-le-mul q p }

-- a row more of the table
pub row_more :
    (w : ℕ) (x : List ℕ) (r : ℕ) (s t u : List ℕ) → Written (entry_of_cell w x) 0 (r * w) s t → Written (entry_in x r) (r * w) w t u
    → Written (entry_of_cell w x) 0 ((r + 1) * w) s u
row_more w x r s t u before row =
    let next : r * w + w ≡ (r + 1) * w = omega (arith, add-mul r 1 w) in
    subst (λ (n : ℕ). Written (entry_of_cell w x) 0 n s u) next
    (written_on (entry_of_cell w x) 0 (r * w) (r * w) w s t u (omega arith) before
    (written_as (entry_in x r) (λ i. entry_of_cell w x (r * w + i)) (r * w) w t u
    (λ c h. ap₂ (λ (i j : ℕ). entry_in x i j) (sym (digits_div r h)) (sym (digits_mod r h))) row))
