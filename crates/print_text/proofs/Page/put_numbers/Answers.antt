-- `print_text::Page::put_numbers` meets its contract: after the first number, each turn writes the next one as a field.
use borrow.Author.Rules.{rules}
use native.Mathlib.Omega.{arith}
use Prim.Native.Nat.{◌-◌, ◌≤◌}
use lib.ListN.{length, drop, length-drop}
use lib.Seq.{take_all}
use Rattle.print_text.specs.Text.{fields_after}
use Rattle.print_text.proofs.Pages.{wrote_nothing, no_numbers, wrote_numbers, wrote_fields}
use Rattle.print_text.proofs.Page.put_numbers.Goals as goal

pub loop-number-init : goal.loop-number-init
unfolding fields_after
loop-number-init c = record { wrote = wrote_nothing; at_most = search rules }

pub loop-number-preserved : goal.loop-number-preserved
loop-number-preserved c =
    let l = c.loop-number in
    record {
      wrote = wrote_fields _ l.number-index (search rules) l.invariant.wrote c.put_field.ensures.wrote;
      at_most = search rules;
    }

pub returns-in_default-clause-wrote : goal.returns-in_default-clause-wrote
returns-in_default-clause-wrote c = no_numbers _ c.in_default.len_below

pub returns-after-loop-number-clause-wrote : goal.returns-after-loop-number-clause-wrote
returns-after-loop-number-clause-wrote c =
    let all : length (drop 1 c.args.numbers.now) ≤ length c.args.numbers.now - 1 = simp length-drop (omega arith) in
    let rest = rw (take_all _ _ c.loop-number-test.false, take_all _ _ all) at c.loop-number.invariant.wrote in
    wrote_numbers _ c.in-len1-up.len_at_least c.put_number.ensures.wrote rest
