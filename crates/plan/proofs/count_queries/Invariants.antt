-- `plan::count_queries` meets its contract: at each turn those counted and those still to count are all, and the next
-- record begins within the bytes or at their end.
use Prim.Native.Nat.{◌≤◌}
use lib.ListN.{length}
use Rattle.plan.proofs.Counting.{Counting}
use Rattle.plan.proofs.count_queries.Given as goal

abbrev pub invariant-loop-count : goal.invariant-loop-count
invariant-loop-count l = Counting l.bytes l.first l.count l.at × (l.at ≤ length l.bytes)
