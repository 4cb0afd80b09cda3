-- The table of the numbers of four cells: that a table is one, by one test that is computed over all its entries; and
-- the bits of a byte by its four-bit parts.
use mathlib.Core.Path.{◌≡◌, refl, ap, ◌∙◌}
use mathlib.Core.Bool.{Bool, true}
use mathlib.Core.List.{List, [], ◌∷◌}
use Prim.Native.Nat.{ℕ, zero, suc, ◌-◌, ◌*◌, ◌/◌, ◌%◌, ◌<◌, ◌^◌}
use native.Mathlib.Omega.{arith}
use lib.ListN.{get_or, length}
use lib.Dec.{eqb}
use borrow.Author.Tests.{eqb-true}
use Rattle.answers.specs.Bools.{both}
use Rattle.floor.specs.Floor.{bit}
use Rattle.floor.proofs.Entries.{every, entry}
use Rattle.answers.proofs.Bools.{both_true}
use Rattle.fill_steps.specs.inner.Work.{unreached, at}
use Rattle.fill_load.specs.inner.Load.{Fours}

-- the number of cell k is right, and those of all four, whose bits are q
abbrev right : (q k v : ℕ) → Bool
right q k v = eqb v ((1 - bit k q) * unreached)

abbrev pub four_right : ℕ → List ℕ → Bool
four_right q row = both (eqb (length row) 4) (every (right q) row)

pub fours_of : (t : List (List ℕ)) → length t ≡ 16 → every four_right t ≡ true → Fours t
fours_of t n e = record {
  entry = λ q k a b.
      let row = get_or t q [] in
      let (size, all) = both_true (eqb (length row) 4) (every (right q) row) (entry four_right t [] e q (omega arith)) in
      eqb-true _ _ (entry (right q) row 0 all k (omega (arith, eqb-true (length row) 4 size)));
}

-- the code's table
unfoldable pub fours : List (List ℕ)
fours =
    (unreached ∷ unreached ∷ unreached ∷ unreached ∷ [])
    ∷ (0 ∷ unreached ∷ unreached ∷ unreached ∷ [])
    ∷ (unreached ∷ 0 ∷ unreached ∷ unreached ∷ [])
    ∷ (0 ∷ 0 ∷ unreached ∷ unreached ∷ [])
    ∷ (unreached ∷ unreached ∷ 0 ∷ unreached ∷ [])
    ∷ (0 ∷ unreached ∷ 0 ∷ unreached ∷ [])
    ∷ (unreached ∷ 0 ∷ 0 ∷ unreached ∷ [])
    ∷ (0 ∷ 0 ∷ 0 ∷ unreached ∷ [])
    ∷ (unreached ∷ unreached ∷ unreached ∷ 0 ∷ [])
    ∷ (0 ∷ unreached ∷ unreached ∷ 0 ∷ [])
    ∷ (unreached ∷ 0 ∷ unreached ∷ 0 ∷ [])
    ∷ (0 ∷ 0 ∷ unreached ∷ 0 ∷ [])
    ∷ (unreached ∷ unreached ∷ 0 ∷ 0 ∷ [])
    ∷ (0 ∷ unreached ∷ 0 ∷ 0 ∷ [])
    ∷ (unreached ∷ 0 ∷ 0 ∷ 0 ∷ [])
    ∷ (0 ∷ 0 ∷ 0 ∷ 0 ∷ [])
    ∷ []

pub fours_right : Fours fours
unfolding fours
fours_right = fours_of fours refl refl

-- a fact of the eight bits of a byte is eight facts
eight : (P : ℕ → Type 0) → P 0 → P 1 → P 2 → P 3 → P 4 → P 5 → P 6 → P 7 → (k : ℕ) → k < 8 → P k
eight P p0 p1 p2 p3 p4 p5 p6 p7 zero b = p0
eight P p0 p1 p2 p3 p4 p5 p6 p7 (suc zero) b = p1
eight P p0 p1 p2 p3 p4 p5 p6 p7 (suc (suc zero)) b = p2
eight P p0 p1 p2 p3 p4 p5 p6 p7 (suc (suc (suc zero))) b = p3
eight P p0 p1 p2 p3 p4 p5 p6 p7 (suc (suc (suc (suc zero)))) b = p4
eight P p0 p1 p2 p3 p4 p5 p6 p7 (suc (suc (suc (suc (suc zero))))) b = p5
eight P p0 p1 p2 p3 p4 p5 p6 p7 (suc (suc (suc (suc (suc (suc zero)))))) b = p6
eight P p0 p1 p2 p3 p4 p5 p6 p7 (suc (suc (suc (suc (suc (suc (suc zero))))))) b = p7
eight P p0 p1 p2 p3 p4 p5 p6 p7 (suc (suc (suc (suc (suc (suc (suc (suc k)))))))) b = absurd (omega arith)

-- a bit of a byte is one of four
bit_of_four : (b : ℕ) → b < 256 → (k : ℕ) → k < 8 → bit (k % 4) (b / 2 ^ (k / 4 * 4) % 16) ≡ bit k b
bit_of_four b h =
    eight (λ k. bit (k % 4) (b / 2 ^ (k / 4 * 4) % 16) ≡ bit k b) (omega arith) (omega arith) (omega arith) (omega arith) (omega arith) (omega arith)
    (omega arith) (omega arith)

-- the number of a byte's cell stands in the table
pub number_read : (t : List (List ℕ)) → Fours t → (b : ℕ) → b < 256 → (k : ℕ) → k < 8
    → at (get_or t (b / 2 ^ (k / 4 * 4) % 16) []) (k % 4) ≡ (1 - bit k b) * unreached
number_read t f b h k l =
    f.entry (b / 2 ^ (k / 4 * 4) % 16) (k % 4) (omega arith) (omega arith) ∙ ap (λ (d : ℕ). (1 - d) * unreached) (bit_of_four b h k l)
