-- `print_text::Page::put_numbers` meets its contract: after the first number, each turn writes the next one as a field.
use Prim.Native.Nat.{◌+◌, ◌*◌, ◌≤◌}
use lib.ListN.{take}
use Rattle.print_text.specs.Text.{fields_after}
use Rattle.print_text.specs.inner.Page.{Wrote}
use Rattle.print_text.specs.inner.Space.{field_room}
use Rattle.print_text.proofs.Page.put_numbers.Given as goal

abbrev pub invariant-loop-number : goal.invariant-loop-number
invariant-loop-number l = record {
  wrote : Wrote l.initial.self (fields_after (take l.number-index l.rest)) l.self;
  at_most : l.self.at ≤ l.initial.self.at + field_room * l.number-index;
}
