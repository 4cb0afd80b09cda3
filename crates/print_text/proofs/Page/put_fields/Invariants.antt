-- `print_text::Page::put_fields` meets its contract: each turn writes the next number after those before it, in at most four bytes.
use Prim.Native.Nat.{◌+◌, ◌*◌, ◌≤◌}
use lib.ListN.{take}
use Rattle.print_text.specs.Text.{fields_after}
use Rattle.print_text.specs.inner.Page.{Wrote}
use Rattle.print_text.specs.inner.Space.{byte_room}
use Rattle.print_text.proofs.Page.put_fields.Given as goal

abbrev pub invariant-loop-number : goal.invariant-loop-number
invariant-loop-number l = record {
  wrote : Wrote l.initial.self (fields_after (take l.number-index l.numbers)) l.self;
  at_most : l.self.at ≤ l.initial.self.at + byte_room * l.number-index;
}
