-- `plan::fixed_record_at` meets its contract: it reads a record, and then asks for the length of its content.
use mathlib.Core.Path.{◌∙◌}
use native.Mathlib.Omega.{arith}
use Rattle.plan.proofs.Ways.{fixed_not_read, other_length, fixed_read}
use Rattle.plan.proofs.fixed_record_at.Goals as goal

pub returns-in_err-content-clause-value : goal.returns-in_err-content-clause-value
returns-in_err-content-clause-value c =
    c.from_residual.ensures ∙ fixed_not_read _ _ _ _ c.in_err-content.ensures.value

pub returns-then-content-len-clause-value : goal.returns-then-content-len-clause-value
returns-then-content-len-clause-value c = other_length _ _ _ _ _ c.in_ok-content.ensures.value (omega arith)

pub returns-clause-value : goal.returns-clause-value
returns-clause-value c = fixed_read _ _ _ _ _ c.in_ok-content.ensures.value (omega arith)
