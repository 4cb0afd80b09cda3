-- `print_out::print_all` meets its contract: each turn writes the next lines, and there are at most 65 of them.
use Rattle.std.proofs.Common.{rules}
use Rattle.print_out.proofs.Going.{going_more, all_written}
use Rattle.print_out.proofs.print_all.Goals as goal

pub returns-then-printed-eq0 : goal.returns-then-printed-eq0
returns-then-printed-eq0 g c =
    let i = c.loop-from.invariant in
    rw i.length_kept at (all_written _ _ _ _ _ _ _ _ i.going c.print_lines-printed.ensures.shown c.in_ok-write_all.ensures.bytes c.then-printed-eq0.either)

pub loop-from-preserved : goal.loop-from-preserved
loop-from-preserved g c =
    let i = c.loop-from.invariant in
    record {
      going = going_more _ _ _ _ _ _ _ _ i.going c.print_lines-printed.ensures.shown c.in_ok-write_all.ensures.bytes;
      length_kept = search rules;
    }
