-- `try_solver::sizes::root_of` meets its contract: the square of a number below 2^32 is below 2^64.
use Rattle.std.proofs.Common.{arith, ◌≤◌}
use Rattle.std.proofs.lemmas.Nat.{mul-le, widths}
use Rattle.try_solver.proofs.sizes.root_of.Goals as goal

pub overflow_mul-from : goal.overflow_mul-from
overflow_mul-from c =
    let small : c.from.result ≤ 4294967295 = grind (arith, widths) in
    let same : c.from-in-loop-digit.result ≤ 4294967295 = grind (arith, widths) in
    omega (arith, mul-le _ _ _ _ small same)
