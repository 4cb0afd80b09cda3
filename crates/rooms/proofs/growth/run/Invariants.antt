-- `rooms::growth::run` meets its contract. The loop's invariant: every number so far passes.
use Rattle.std.proofs.Common.{ℕ, ◌<◌, true}
use Rattle.rooms.proofs.growth.run.Given as goal

abbrev pub invariant-loop-i : goal.invariant-loop-i
invariant-loop-i g l = (k : ℕ) → k < l.i → goal.F-post g l.test k true
