-- `rooms::growth::run` meets its contract: all that the loop has passed pass, and it stops at the end or at one that
-- fails.
use Rattle.std.proofs.Common.{arith, rules}
use Rattle.rooms.proofs.Running.{counts}
use Rattle.rooms.proofs.growth.run.Goals as goal

pub returns-then-not-test-clause-counts : goal.returns-then-not-test-clause-counts
returns-then-not-test-clause-counts g c = counts _ _ _ (omega arith) c.loop-i.invariant (λ lt. search rules)

pub returns-clause-counts : goal.returns-clause-counts
returns-clause-counts g c = counts _ _ _ (omega arith) (λ k lt. c.loop-i.invariant k (omega arith)) (λ lt. absurd (omega arith))
