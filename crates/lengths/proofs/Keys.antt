-- Keys are in the order of the lengths, as long as the straight parts are below 19601, and a key gives its pair
-- back, as long as the diagonal part is below 13860.
-- The idea: 19601² = 2 · 13860² + 1, so 19601 / 13860 is above √2 by very little. If p straight steps are more than r
-- diagonal ones (p² ≥ 2r² + 1) and yet 13860 p ≤ 19601 r, then r ≥ 13860 and so p ≥ 19601.
use mathlib.Core.Path.{◌≡◌, ap, sym, ◌∙◌}
use Prim.Native.Nat.{ℕ, ◌+◌, ◌-◌, ◌*◌, ◌/◌, ◌%◌, ◌≤◌, ◌<◌}
use native.Mathlib.Nat.{mul-le-mul, mod-eq_of_lt, mul-add-mod_self_right}
use native.Mathlib.Decide.{dec_le}
use native.Mathlib.Omega.{arith}
use Rattle.lengths.specs.declared.Length.{Length}
use Rattle.lengths.specs.Order.{over, ◌⊑◌}
use Rattle.lengths.specs.inner.Keys.{key, diagonal_of, pair}
use Rattle.lengths.proofs.Order.{length_ext, both_less, sq_zero, ⊑_antisym}

-- p straight steps that are not more than r diagonal ones by key are not more by square
under : (p r : ℕ) → p < 19601 → 13860 * p ≤ 19601 * r → p * p ≤ 2 * (r * r)
under p r b h = by (dec_le (p * p) (2 * (r * r)))
  where
    by : Dec (p * p ≤ 2 * (r * r)) → p * p ≤ 2 * (r * r)
    by (yes g) = g
    by (no g) =
        let small : p ≤ 19600 = omega arith in
        omega (arith, mul-le-mul h h, mul-le-mul small small)

above : (p r : ℕ) → 19601 * r ≤ 13860 * p → 2 * (r * r) ≤ p * p
above p r h = by (dec_le (2 * (r * r)) (p * p))
  where
    by : Dec (2 * (r * r) ≤ p * p) → 2 * (r * r) ≤ p * p
    by (yes g) = g
    by (no g) = omega (arith, mul-le-mul h h)

-- what is not more by key is not longer
pub key_order : (a b : Length) → a.straight < 19601 → key a ≤ key b → a ⊑ b
unfolding over
key_order a b small h = by (dec_le a.straight b.straight) (dec_le a.diagonal b.diagonal)
  where
    by : Dec (a.straight ≤ b.straight) → Dec (a.diagonal ≤ b.diagonal) → a ⊑ b
    by (yes p) (yes q) = both_less a b p q
    by (yes p) (no q) =
        let e = sq_zero {x = a.straight - b.straight} (omega arith) in
        let f = sq_zero {x = b.diagonal - a.diagonal} (omega arith) in
        record { le = omega (arith, above (b.straight - a.straight) (a.diagonal - b.diagonal) (omega arith)) }
    by (no p) (yes q) =
        let e = sq_zero {x = b.straight - a.straight} (omega arith) in
        let f = sq_zero {x = a.diagonal - b.diagonal} (omega arith) in
        record { le = omega (arith, under (a.straight - b.straight) (b.diagonal - a.diagonal) (omega arith) (omega arith)) }
    by (no p) (no q) = absurd (omega arith)

-- what is not longer is not more by key
pub order_key : (a b : Length) → b.straight < 19601 → a ⊑ b → key a ≤ key b
order_key a b small h = by (dec_le (key a) (key b))
  where
    by : Dec (key a ≤ key b) → key a ≤ key b
    by (yes g) = g
    by (no g) = omega (arith, ap key (⊑_antisym h (key_order b a small (omega arith))))

diagonal_back : (a : Length) → a.diagonal < 13860 → diagonal_of (key a) ≡ a.diagonal
diagonal_back a h =
    let r = key a % 13860 in
    let q = key a / 13860 in
    let e : 19601 * q * 13860 + r * 19601 ≡ (19601 * a.straight + 27720 * a.diagonal) * 13860 + a.diagonal = omega arith in
    sym (mul-add-mod_self_right (19601 * q) 13860 (r * 19601)) ∙ ap (λ (z : ℕ). z % 13860) e
    ∙ mul-add-mod_self_right (19601 * a.straight + 27720 * a.diagonal) 13860 a.diagonal ∙ mod-eq_of_lt h

-- the pair of a key is the pair it was made of
pub pair_back : (a : Length) → a.diagonal < 13860 → pair (key a) ≡ a
pair_back a h =
    let e = diagonal_back a h in
    length_ext (omega arith) e
