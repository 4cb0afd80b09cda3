-- `plan::ask_query` meets its contract: it refuses by its one test, and a record that lies within the bytes is read.
use mathlib.Core.Path.{sym, ◌∙◌, ap}
use Rattle.answers.specs.Refusing.{done}
use Rattle.answers.proofs.Refusals.{refuse_passed, refused_given, work_done, handed_up}
use Rattle.plan.specs.declared.Query.{Query}
use Rattle.plan.specs.Reads.{query_given}
use Rattle.plan.proofs.Asking.{few_left, record_within}
use Rattle.plan.proofs.ask_query.Goals as goal

pub returns-in_err-refuse : goal.returns-in_err-refuse
returns-in_err-refuse c =
    let e = few_left c.args.bytes.now c.args.at _ c.saturating_sub.ensures in
    handed_up _ _ _ _ c.from_residual.ensures (refused_given _ _ (rw (← e) (sym c.in_err-refuse.ensures)) tt)

pub query_at-requires : goal.query_at-requires
query_at-requires c =
    let e = few_left c.args.bytes.now c.args.at _ c.saturating_sub.ensures in
    record_within _ _ (sym e ∙ refuse_passed _ _ (sym c.in_ok-refuse.ensures))

pub returns : goal.returns
returns c =
    let e = few_left c.args.bytes.now c.args.at _ c.saturating_sub.ensures in
    work_done _ _ (rw (← e) (sym c.in_ok-refuse.ensures)) (ap (λ (q : Query). done (query_given q)) c.query_at.ensures)
