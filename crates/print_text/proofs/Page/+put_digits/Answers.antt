-- `print_text::Page::put_digits` meets its contract: a number in decimal is its tens in decimal, if it has any, and then its last digit.
use mathlib.Core.Path.{◌≡◌}
use Prim.Native.Nat.{◌%◌}
use native.Mathlib.Omega.{arith}
use Rattle.print_text.proofs.Digits.{decimal_digit, decimal_tens, decimal_length_digit, decimal_length_tens}
use Rattle.print_text.proofs.Pages.{wrote_then}
use Rattle.print_text.proofs.Page.+put_digits.Goals as goal
use Rattle.print_text.proofs.Page.+put_digits.Goals.{then-n-ge-TWO_DIGITS, else-n-ge-TWO_DIGITS}

pub put_digits-requires : goal.put_digits-requires
put_digits-requires t c = (omega arith, omega (arith, decimal_length_tens c.args.n c.if-n-ge-TWO_DIGITS.true))

pub put_byte-requires : goal.put_byte-requires
put_byte-requires t c =
    elim c.if-n-ge-TWO_DIGITS.branch [
      | then-n-ge-TWO_DIGITS w ↦ rw w.self-is (omega (arith, decimal_length_tens c.args.n w.if-n-ge-TWO_DIGITS.true))
      | else-n-ge-TWO_DIGITS w ↦ rw w.self-is (omega (arith, decimal_length_digit c.args.n w.if-n-ge-TWO_DIGITS.false))
    ]

pub returns : goal.returns
returns t c =
    elim c.if-n-ge-TWO_DIGITS.branch [
      | then-n-ge-TWO_DIGITS w ↦ rw (decimal_tens c.args.n w.if-n-ge-TWO_DIGITS.true) (wrote_then w.put_digits.ensures (rw w.self-is at c.put_byte.ensures))
      | else-n-ge-TWO_DIGITS w ↦
          let last : c.args.n % 10 ≡ c.args.n = omega arith in
          rw (decimal_digit c.args.n w.if-n-ge-TWO_DIGITS.false, ← last, ← w.self-is) c.put_byte.ensures
    ]
