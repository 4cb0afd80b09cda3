-- Reading a cell: its byte lies in the map, and the bit that is read says whether it is blocked.
use mathlib.Core.Path.{◌≡◌, sym, subst, ap}
use mathlib.Core.Bool.{true, not}
use Prim.Native.Nat.{ℕ, ◌+◌, ◌*◌, ◌/◌, ◌%◌, ◌^◌, ◌≤◌, ◌<◌}
use native.Mathlib.Nat.{mul-le-mul}
use native.Mathlib.Omega.{arith}
use borrow.Author.Tests.{ltb-true}
use lib.Arith.{digits_lt}
use lib.Bits.{bit_and, and_mask}
use lib.Dec.{ltb, eqb}
use lib.ListN.{length, get_or}
use Rattle.floor.specs.Floor.{Map, bytes_per_row, blocked, open?}
use Rattle.floor.specs.inner.Ready.{SoundFloor}
use Rattle.answers.proofs.Bools.{both_true}

-- a floor's sides are small, so that no product of two numbers up to 128 wraps
pub small : (a b : ℕ) → a ≤ 128 → b ≤ 128 → a * b ≤ 16384
small a b p q = omega (arith, mul-le-mul p q)

-- the byte of a row that a column before the row's end stands in lies in the map
pub in_map : (m : Map) → SoundFloor m → (row at : ℕ) → row < m.height → at < bytes_per_row m.width → row * bytes_per_row m.width + at < length m.bytes
in_map m sound row at high wide = subst (λ (n : ℕ). row * bytes_per_row m.width + at < n) (sym sound.size) (digits_lt high wide)

-- a byte shifted to the cell's place and masked by 1 is the cell's bit
pub cell_bit : (m : Map) (column row : ℕ)
    → eqb (bit_and (get_or m.bytes (row * bytes_per_row m.width + column / 8) 0 / 2 ^ (column % 8)) 1) 1 ≡ blocked m column row
unfolding blocked
cell_bit m column row = ap (λ (z : ℕ). eqb z 1) (and_mask (get_or m.bytes (row * bytes_per_row m.width + column / 8) 0 / 2 ^ (column % 8)) 1)

-- an open cell is on the floor
pub open_on : (m : Map) (column row : ℕ) → open? m column row ≡ true → (column < m.width) × (row < m.height)
unfolding open?
open_on m column row e =
    let p = both_true (ltb column m.width) _ e in
    let q = both_true (ltb row m.height) (not (blocked m column row)) p.1 in
    (ltb-true column m.width p.0, ltb-true row m.height q.0)
