-- `print_text::Page::put_fields` meets its contract: each turn writes the next number after those before it, in at most four bytes.
use borrow.Author.Rules.{rules}
use native.Mathlib.Omega.{arith}
use Rattle.print_text.specs.Text.{fields_after}
use Rattle.print_text.proofs.Fields.{byte_fits}
use Rattle.print_text.proofs.Pages.{wrote_nothing, wrote_fields}
use Rattle.print_text.proofs.Page.put_fields.Goals as goal

pub loop-number-init : goal.loop-number-init
unfolding fields_after
loop-number-init c = record { wrote = wrote_nothing; at_most = search rules }

pub put_after_blank-requires : goal.put_after_blank-requires
put_after_blank-requires c = omega (arith, byte_fits c.from.result (search rules))

pub loop-number-preserved : goal.loop-number-preserved
loop-number-preserved c =
    let l = c.loop-number in
    record {
      wrote = wrote_fields _ l.number-index (search rules) l.invariant.wrote (rw c.from.ensures at c.put_after_blank.ensures);
      at_most = omega (arith, byte_fits c.from.result (search rules));
    }
