-- `print_plan::heads::head_of` meets its contract: each way out says what the first line does.
use mathlib.Core.Path.{refl}
use Rattle.std.proofs.lemmas.Result.{err_from_is_err_and}
use Rattle.print_plan.proofs.HeadLines.{long_head, short_input, read_sound, read_refused, map_is, head_of_plan}
use Rattle.print_plan.proofs.heads.head_of.Goals as goal

pub returns-in_err-refuse : goal.returns-in_err-refuse
returns-in_err-refuse c =
    let p = err_from_is_err_and c.from_residual.result c.from_residual.ensures.1 in
    rw (p.1, p.2) (long_head _ _ c.in_err-refuse.ensures)

pub returns-in_err-plan : goal.returns-in_err-plan
returns-in_err-plan c =
    let p = err_from_is_err_and c.from_residual-in_err-plan.result c.from_residual-in_err-plan.ensures.1 in
    rw (p.1, p.2) (read_refused _ (short_input _ c.in_ok-refuse.ensures) c.in_err-plan.ensures)

pub returns-in_err-test_plan : goal.returns-in_err-test_plan
returns-in_err-test_plan c =
    let p = err_from_is_err_and c.from_residual-in_err-test_plan.result c.from_residual-in_err-test_plan.ensures.1 in
    let taken = read_sound _ (short_input _ c.in_ok-refuse.ensures) c.in_ok-plan.ensures in
    rw (p.1, p.2) (head_of_plan _ taken _ (map_is _ taken) _ c.in_err-test_plan.ensures _ refl)

pub returns : goal.returns
returns c =
    let taken = read_sound _ (short_input _ c.in_ok-refuse.ensures) c.in_ok-plan.ensures in
    head_of_plan _ taken _ (map_is _ taken) _ c.in_ok-test_plan.ensures _ refl
