-- `print_out::print_all` meets its contract: each turn writes the next lines, and there are at most 65 of them.
use Rattle.std.proofs.Common.{◌-◌, ◌≡◌, length}
use Rattle.print_out.proofs.Going.{Going}
use Rattle.print_out.proofs.print_all.Given as goal

abbrev pub invariant-loop-from : goal.invariant-loop-from
invariant-loop-from g l = record {
  going : Going l.input l.from (g.W.Write.contents l.initial.writer) (g.W.Write.contents l.writer);
  length_kept : length l.out ≡ length l.initial.out;
}

abbrev pub decreases-loop-from : goal.decreases-loop-from
decreases-loop-from g l = 65 - l.from
