-- Numbers and entries: a well-formed number is its entry, packed; a number packs one entry only, if its parts are
-- small.
use mathlib.Core.Path.{◌≡◌, refl, ap, sym, subst, ◌∙◌}
use mathlib.Core.Logic.{◌⊎◌, inl, inr}
use mathlib.Core.Bool.{Bool, true, false, not}
use Prim.Native.Nat.{ℕ, ◌≤◌, ◌<◌}
use native.Mathlib.Omega.{arith}
use lib.Dec.{eqb}
use borrow.Author.Tests.{eqb-true}
use Rattle.answers.specs.Bools.{pick, both}
use Rattle.lengths.specs.declared.Length.{Length}
use Rattle.lengths.specs.Answers.{way_part, part_above}
use Rattle.lengths.specs.inner.AtMost.{Within}
use Rattle.lengths.proofs.Order.{length_ext}
use Rattle.lengths.proofs.Tested.{small_parts, parts_small}
use Rattle.table_theory.specs.Entry.{mark, long, pack, parts_of, malformed, read}
use Rattle.table_theory.proofs.Neighbours.{no_mark, long_inj}

-- the parts of a packed length are the length's
parts_pack : (a : Length) → a.straight < 65536 → a.diagonal < 65536 → parts_of (pack (long a)) ≡ a
parts_pack a p q = length_ext (omega arith) (omega arith)

pub read_mark : read 4294967295 ≡ mark
unfolding read part_above
read_mark = refl

-- what a number says, if its parts are small
pub read_small : (v : ℕ) → Within (parts_of v) → read v ≡ long (parts_of v)
unfolding read
read_small v w = rw (parts_small way_part (parts_of v) w)

pub read_long : (a : Length) → Within a → read (pack (long a)) ≡ long a
read_long a w =
    let e = parts_pack a (omega (arith, w.straight)) (omega (arith, w.diagonal)) in
    read_small (pack (long a)) (subst Within (sym e) w) ∙ ap long e

-- a number that says a length has small parts
by_parts : (t : Bool) (v : ℕ) (a : Length) → pick t mark (long (parts_of v)) ≡ long a → (t ≡ false) × (parts_of v ≡ a)
by_parts true v a p = absurd (no_mark (sym p))
by_parts false v a p = (refl, long_inj p)

pub said_small : (v : ℕ) (a : Length) → read v ≡ long a → Within a
unfolding read
said_small v a p = let (t, e) = by_parts (part_above way_part (parts_of v)) v a p in subst Within e (small_parts way_part (parts_of v) t)

-- a number that is not malformed is the mark, or has small parts
formed_by : (s t : Bool) → both (not s) t ≡ false → (s ≡ true) ⊎ (t ≡ false)
formed_by true t e = inl refl
formed_by false t e = inr e

pub formed : (v : ℕ) → malformed v ≡ false → (v ≡ 4294967295) ⊎ Within (parts_of v)
formed v e = by (formed_by (eqb v 4294967295) (part_above way_part (parts_of v)) e)
  where
    by : (eqb v 4294967295 ≡ true) ⊎ (part_above way_part (parts_of v) ≡ false) → (v ≡ 4294967295) ⊎ Within (parts_of v)
    by (inl p) = inl (eqb-true v 4294967295 p)
    by (inr p) = inr (small_parts way_part (parts_of v) p)

-- and such a number is what it says, packed
pub pack_read : (v : ℕ) → malformed v ≡ false → pack (read v) ≡ v
pack_read v e = by (formed v e)
  where
    by : (v ≡ 4294967295) ⊎ Within (parts_of v) → pack (read v) ≡ v
    by (inl p) = ap (λ (z : ℕ). pack (read z)) p ∙ ap pack read_mark ∙ sym p
    by (inr w) = ap pack (read_small v w) ∙ omega arith

-- the mark, and a length with small parts, are packed well-formed
pub mark_formed : malformed 4294967295 ≡ false
mark_formed = refl

both_false : (s : Bool) → both s false ≡ false
both_false true = refl
both_false false = refl

pub long_formed : (a : Length) → Within a → malformed (pack (long a)) ≡ false
long_formed a w =
    let e = parts_pack a (omega (arith, w.straight)) (omega (arith, w.diagonal)) in
    ap (both (not (eqb (pack (long a)) 4294967295))) (parts_small way_part (parts_of (pack (long a))) (subst Within (sym e) w))
    ∙ both_false (not (eqb (pack (long a)) 4294967295))

-- a well-formed number that packs a length, though its parts may pass the limit by one, says that length
pub pack_inj : (v : ℕ) (a : Length) → malformed v ≡ false → a.straight ≤ 16384 → a.diagonal ≤ 16384 → v ≡ pack (long a) → read v ≡ long a
pack_inj v a f p q e = by (formed v f)
  where
    by : (v ≡ 4294967295) ⊎ Within (parts_of v) → read v ≡ long a
    by (inl m) = absurd (omega arith)
    by (inr w) = read_small v w ∙ ap long (length_ext (omega arith) (omega arith))
