-- `plan::record_at` meets its contract: each test that fails is one of the things that can be wrong with a record, and
-- where all hold the record is whole.
use native.Mathlib.Omega.{arith}
use mathlib.Core.Path.{sym, ◌∙◌}
use Rattle.plan.proofs.Ways.{header_cut, content_cut, other_kind, read_here}
use Rattle.plan.proofs.record_at.Goals as goal
use Rattle.plan.proofs.record_at.Goals.{then-left-len-via-then-left-len, then-left-len-via-else-left-len+then-number_at-number}

pub returns-then-left-lt4-clause-value : goal.returns-then-left-lt4-clause-value
returns-then-left-lt4-clause-value c = header_cut _ _ _ (omega arith)

pub returns-then-left-len-clause-value : goal.returns-then-left-len-clause-value
returns-then-left-len-clause-value c =
    elim c.then-left-len.branch [
      | then-left-len-via-then-left-len w ↦ content_cut _ _ _ _ c.number_at-len.ensures (omega arith)
      | then-left-len-via-else-left-len+then-number_at-number w ↦
          other_kind _ _ _ _ c.number_at-len.ensures _ w.number_at.ensures
          (λ e. w.if-number_at-number.true (e ∙ sym w.number.ensures))
    ]

pub returns-clause-value : goal.returns-clause-value
returns-clause-value c =
    read_here _ _ _ _ c.number_at-len.ensures _ c.number_at.ensures (c.if-number_at-number.false ∙ c.number.ensures) (omega arith) (omega arith)
