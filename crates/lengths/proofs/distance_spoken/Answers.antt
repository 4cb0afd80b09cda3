-- `lengths::distance_spoken` meets its contract: a refusal is the first that holds, and what passed the tests is
-- small, so that nothing wraps.
use native.Mathlib.Omega.{arith}
use Rattle.lengths.proofs.Tested.{small_products}
use Rattle.answers.proofs.Refusals.{ends_here, goes_on, comes_through, handed_up}
use Rattle.lengths.proofs.Exits.{spoken}
use Rattle.lengths.proofs.distance_spoken.Goals as goal

pub returns-in_err-test_parts : goal.returns-in_err-test_parts
returns-in_err-test_parts c = handed_up _ _ _ _ c.from_residual.ensures (ends_here _ _ _ c.in_err-test_parts.ensures tt)

pub returns-in_err-test_size : goal.returns-in_err-test_size
returns-in_err-test_size c =
    handed_up _ _ _ _ c.from_residual-in_err-test_size.ensures
    (goes_on _ _ _ c.in_ok-test_parts.ensures (ends_here _ _ _ c.in_err-test_size.ensures tt))

pub nearest-part-requires : goal.nearest-part-requires
nearest-part-requires c = (small_products _ _ c.in_ok-test_parts.ensures c.in_ok-test_size.ensures).diagonal

pub overflow_mul-result : goal.overflow_mul-result
overflow_mul-result c =
    omega (arith, (small_products _ _ c.in_ok-test_parts.ensures c.in_ok-test_size.ensures).straight)

pub overflow_cast-result : goal.overflow_cast-result
overflow_cast-result c =
    omega (arith, (small_products _ _ c.in_ok-test_parts.ensures c.in_ok-test_size.ensures).diagonal, c.nearest-part.ensures.1)

pub overflow_add-result : goal.overflow_add-result
overflow_add-result c =
    let s = small_products _ _ c.in_ok-test_parts.ensures c.in_ok-test_size.ensures in
    omega (arith, s.straight, s.diagonal, c.nearest-part.ensures.1)

pub returns : goal.returns
returns c =
    goes_on _ _ _ c.in_ok-test_parts.ensures
    (goes_on _ _ _ c.in_ok-test_size.ensures (comes_through _ (spoken _ _ _ c.nearest-part.ensures.0)))
