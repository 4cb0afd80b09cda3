-- `try_solver::sizes::distance` meets its contract: a size is at most 1,000 and a number of steps below 65,536, so
-- their products are small.
use Rattle.std.proofs.Common.{arith}
use Rattle.std.proofs.lemmas.Nat.{mul-le}
use Rattle.try_solver.proofs.sizes.distance.Goals as goal

pub nearest-requires : goal.nearest-requires
nearest-requires c = mul-le _ _ 1000 65535 (omega arith) (omega arith)

pub overflow_add-centimetres : goal.overflow_add-centimetres
overflow_add-centimetres c = omega (arith, mul-le c.from-size.result c.from.result 1000 65535 (omega arith) (omega arith))
