-- The order of lengths is the sign of p + q√2: the one that p and q share, or that of the greater of p² and 2q².
use mathlib.Core.Path.{◌≡◌}
use mathlib.Core.Logic.{◌↔◌}
use Prim.Native.Nat.{◌-◌, ◌*◌, ◌≤◌, ◌<◌}
use native.Mathlib.Nat.{lt_of_not-le}
use native.Mathlib.Decide.{dec_le}
use native.Mathlib.Omega.{arith}
use Rattle.lengths.specs.declared.Length.{Length}
use Rattle.lengths.specs.Order.{over, steps}
use Rattle.lengths.proofs.Order.{◌⊏◌, sq_zero, both_less, not_⊏, ⊏_not, ⊑_antisym}

-- p + q√2 is below 0, with p and q the differences of the parts: both are, or the square of the one that is counts more.
pub data Rule (a b : Length) : Type 0 where
  common : a.straight ≤ b.straight → a.diagonal ≤ b.diagonal → steps a < steps b → Rule a b
  fewer_diagonal :
      b.straight ≤ a.straight → a.diagonal ≤ b.diagonal
      → (a.straight - b.straight) * (a.straight - b.straight) < 2 * ((b.diagonal - a.diagonal) * (b.diagonal - a.diagonal)) → Rule a b
  fewer_straight :
      a.straight ≤ b.straight → b.diagonal ≤ a.diagonal
      → 2 * ((a.diagonal - b.diagonal) * (a.diagonal - b.diagonal)) < (b.straight - a.straight) * (b.straight - a.straight) → Rule a b

module _ (a b : Length) where
  to_rule : Dec (a.straight ≤ b.straight) → Dec (a.diagonal ≤ b.diagonal) → a ⊏ b → Rule a b
  unfolding over
  to_rule (yes p) (yes q) h = common p q (lt_of_not-le (λ k. ⊏_not h (both_less b a (omega arith) (omega arith))))
  to_rule (yes p) (no q) h =
      let e = sq_zero {x = a.straight - b.straight} (omega arith) in
      let f = sq_zero {x = b.diagonal - a.diagonal} (omega arith) in
      fewer_straight p (omega arith) (omega (arith, h.lt))
  to_rule (no p) (yes q) h =
      let e = sq_zero {x = b.straight - a.straight} (omega arith) in
      let f = sq_zero {x = a.diagonal - b.diagonal} (omega arith) in
      fewer_diagonal (omega arith) q (omega (arith, h.lt))
  to_rule (no p) (no q) h = absurd (⊏_not h (both_less b a (omega arith) (omega arith)))

  from_rule : Rule a b → a ⊏ b
  unfolding over
  from_rule (common p q r) = not_⊏ (λ k. omega (arith, same (⊑_antisym (both_less a b p q) k)))
    where
      same : a ≡ b → steps a ≡ steps b
      same e = λ i. steps (e i)
  from_rule (fewer_diagonal p q r) =
      let e = sq_zero {x = b.straight - a.straight} (omega arith) in
      let f = sq_zero {x = a.diagonal - b.diagonal} (omega arith) in
      record { lt = omega arith }
  from_rule (fewer_straight p q r) =
      let e = sq_zero {x = a.straight - b.straight} (omega arith) in
      let f = sq_zero {x = b.diagonal - a.diagonal} (omega arith) in
      record { lt = omega arith }

  pub rule : (a ⊏ b) ↔ Rule a b
  rule = (to_rule (dec_le a.straight b.straight) (dec_le a.diagonal b.diagonal), from_rule)
