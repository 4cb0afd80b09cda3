-- `print_plan::put_line` meets its contract: line 0 is the first line, and the others are the queries'.
use Rattle.print_line.specs.Head.{head_line}
use Rattle.print_plan.specs.Lines.{LineAt}
use Rattle.print_plan.proofs.put_line.Goals as goal

pub returns-then-index-eq0 : goal.returns-then-index-eq0
returns-then-index-eq0 c =
    record { bytes = head_line c.args.head; is = rw c.if-index-eq0.true (LineAt.first _ c.requires.heads); line_put = c.put_head.ensures }

pub put_numbered-requires-clause-heads : goal.put_numbered-requires-clause-heads
put_numbered-requires-clause-heads c = rw c.in-Ok.is at c.requires.heads
