-- What the tests of a length and of a cell size show of what they let pass.
use mathlib.Core.Path.{◌≡◌, sym}
use mathlib.Core.Bool.{false}
use Prim.Native.Nat.{ℕ, ◌*◌, ◌≤◌}
use native.Mathlib.Nat.{mul-le-mul}
use native.Mathlib.Omega.{arith}
use lib.Dec.{ltb}
use borrow.Author.Tests.{ltb-false, le-ltb}
use Rattle.std.specs.Prelude.{Ok}
use Rattle.answers.specs.declared.Refusal.{Refusal}
use Rattle.answers.specs.declared.Refusal.TheVariants as refusal
use Rattle.answers.specs.Refusing.{refuse}
use Rattle.answers.proofs.Bools.{either_false}
use Rattle.answers.proofs.Refusals.{refuse_passed}
use Rattle.lengths.specs.declared.Length.{Length}
use Rattle.lengths.specs.Answers.{way_part, part_above, size_outside}
use Rattle.lengths.specs.inner.AtMost.{AtMost, Within}

-- the test of the parts, and their limits
pub small_parts : (limit : ℕ) (l : Length) → part_above limit l ≡ false → AtMost limit l
unfolding part_above
small_parts limit l t =
    let (s, d) = either_false (ltb limit l.straight) (ltb limit l.diagonal) t in
    record { straight = ltb-false limit l.straight s; diagonal = ltb-false limit l.diagonal d }

pub parts_small : (limit : ℕ) (l : Length) → AtMost limit l → part_above limit l ≡ false
unfolding part_above
parts_small limit l w = rw (le-ltb limit l.straight w.straight, le-ltb limit l.diagonal w.diagonal)

pub small_size : (size : ℕ) → size_outside size ≡ false → size ≤ 1000
unfolding size_outside
small_size size t = let (s, d) = either_false (ltb size 1) (ltb 1000 size) t in ltb-false 1000 size d

-- what passed the test of the parts is within the limit
pub within_passed : (f : Refusal) (l : Length) → Ok tt ≡ refuse f (part_above way_part l) → Within l
within_passed f l e = small_parts way_part l (refuse_passed f _ (sym e))

-- a cell size and a length that passed their tests: the size times each part is small
pub record Small (size : ℕ) (l : Length) : Type 0 where
  pub straight : size * l.straight ≤ 1000 * way_part
  pub diagonal : size * l.diagonal ≤ 1000 * way_part

pub small_products : (size : ℕ) (l : Length)
    → Ok tt ≡ refuse refusal.LengthAbove (part_above way_part l) → Ok tt ≡ refuse refusal.SizeOutside (size_outside size) → Small size l
small_products size l d e =
    let w = within_passed refusal.LengthAbove l d in
    let s = small_size size (refuse_passed refusal.SizeOutside _ (sym e)) in
    record { straight = omega (arith, mul-le-mul s w.straight); diagonal = omega (arith, mul-le-mul s w.diagonal) }
