-- What asking for a query shows: whether its record lies within the bytes, and the query that is read there.
use mathlib.Core.Path.{◌≡◌}
use mathlib.Core.Bool.{false}
use mathlib.Core.List.{List}
use Prim.Native.Nat.{ℕ, ◌+◌, ◌-◌, ◌≤◌}
use native.Mathlib.Omega.{arith}
use native.Mathlib.Decide.{dec_le}
use lib.Dec.{ltb}
use lib.ListN.{length}
use borrow.Author.Tests.{ltb-false, lt-ltb, le-ltb}
use Rattle.plan.specs.Reads.{record_past}

-- what is left of the bytes from the offset on is below the 12 bytes of a record
pub few_left : (bytes : List ℕ) (at left : ℕ) → left ≡ length bytes - at → ltb left 12 ≡ record_past bytes at
unfolding record_past
few_left bytes at left e = by (dec_le (at + 12) (length bytes))
  where
    by : Dec (at + 12 ≤ length bytes) → ltb left 12 ≡ ltb (length bytes) (at + 12)
    by (yes k) = rw (le-ltb left 12 (omega arith), le-ltb (length bytes) (at + 12) k)
    by (no k) = rw (lt-ltb left 12 (omega arith), lt-ltb (length bytes) (at + 12) (omega arith))

-- a record that is not past the end lies within the bytes
pub record_within : (bytes : List ℕ) (at : ℕ) → record_past bytes at ≡ false → at + 12 ≤ length bytes
unfolding record_past
record_within bytes at e = ltb-false _ _ e
