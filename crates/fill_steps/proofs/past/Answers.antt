-- `fill_steps::past` meets its contract: an `or` is not below what it is of, and 0 adds nothing to it.
use Rattle.std.proofs.Common.{ℕ, ◌∙◌, ap₂, arith}
use lib.Bits.{bit_or, or_zero_r, or_add_and, and_le_l, and_le_r}
use Rattle.fill_steps.specs.inner.Taken.{PastSides}
use Rattle.fill_steps.proofs.past.Goals as goal

or-past : (n a b : ℕ) → PastSides n a b (bit_or n (bit_or a b))
or-past n a b =
    let whole = or_add_and n (bit_or a b) in
    let sides = or_add_and a b in
    record {
      first = λ u. omega (arith, and_le_l n (bit_or a b), and_le_r a b);
      second = λ u. omega (arith, and_le_l n (bit_or a b), and_le_l a b);
      both = λ e f. ap₂ (λ (u v : ℕ). bit_or n (bit_or u v)) e f ∙ or_zero_r n;
    }

pub returns : goal.returns
returns c = or-past _ _ _
