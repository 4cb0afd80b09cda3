-- `print_plan::print_with` meets its contract: line after line, while there is room for any line.
use Prim.Native.Nat.{◌-◌, ◌≤◌}
use Rattle.print_plan.specs.inner.Parts.{Progress}
use Rattle.print_plan.proofs.print_with.Given as goal

abbrev pub invariant-loop-next : goal.invariant-loop-next
invariant-loop-next l = record {
  lines : Progress l.input l.from l.initial.page l.page l.next;
  no_more : l.next - l.from ≤ l.total - l.from;
}
