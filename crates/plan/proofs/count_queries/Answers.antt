-- `plan::count_queries` meets its contract: at each turn those counted and those still to count are all, and the next
-- record begins within the bytes or at their end.
use native.Mathlib.Omega.{arith}
use Rattle.plan.proofs.Counting.{counting_full, counting_stops, counting_goes_on}
use Rattle.plan.proofs.count_queries.Goals as goal

pub returns-in_default-clause-value : goal.returns-in_default-clause-value
returns-in_default-clause-value c = counting_stops _ _ _ _ c.loop-count.invariant.0 (omega arith) c.in_default.ensures.value

pub loop-count-preserved : goal.loop-count-preserved
loop-count-preserved c = (counting_goes_on _ _ _ _ c.loop-count.invariant.0 (omega arith) _ c.in-Some.ensures.value, c.in-Some.ensures.within.1.within)

pub returns-clause-value : goal.returns-clause-value
returns-clause-value c = counting_full _ _ _ _ c.loop-count.invariant.0 (omega arith)
