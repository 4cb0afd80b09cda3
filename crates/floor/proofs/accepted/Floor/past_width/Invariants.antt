-- No row so far has a bit set past the width.
use mathlib.Core.Path.{◌≡◌}
use mathlib.Core.Bool.{false}
use Prim.Native.Nat.{ℕ, ◌<◌}
use Rattle.floor.specs.Lent.{floor_map}
use Rattle.floor.proofs.Masks.{past_row}
use Rattle.floor.proofs.accepted.Floor.past_width.Given as goal

abbrev pub invariant-loop-row : goal.invariant-loop-row
invariant-loop-row l = (k : ℕ) → k < l.row → past_row (floor_map l.self) k ≡ false
