-- `table::check` meets its contract: the cell that is found is the verdict.
use mathlib.Core.Path.{sym}
use Rattle.answers.proofs.Refusals.{work_done}
use Rattle.table.proofs.Exits.{found_wrong}
use Rattle.table.proofs.check.Goals as goal

pub returns-in-Some : goal.returns-in-Some
returns-in-Some c =
    work_done _ _ (sym c.in_ok-goal.ensures.tested) (found_wrong _ _ _ _ c.in_ok-goal.ensures.aimed _ _ c.in-Some.ensures tt)
