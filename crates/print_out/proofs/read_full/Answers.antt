-- `print_out::read_full` meets its contract: each turn puts more of the reader's bytes after those before them, or is the last.
use Rattle.std.proofs.Common.{rules}
use Rattle.print_out.proofs.Consumed.{consumes_then, front_read}
use Rattle.print_out.proofs.read_full.Goals as goal

pub loop-done-preserved : goal.loop-done-preserved
loop-done-preserved g c =
    let i = c.loop-done.invariant in
    let r = c.in_ok-count.ensures in
    record {
      within = search rules;
      length_kept = search rules;
      read = rw (front_read _ _ _ _ _ i.within r.bound.0) (consumes_then _ _ _ _ _ i.read r.bytes.0);
    }
