-- `route::find_route` meets its contract: where its tests are passed filling is not refused, and what is read from the
-- filled table is the answer.
use mathlib.Core.Path.{sym}
use Rattle.route.proofs.Exits.{fill_never, filled, find_done}
use Rattle.route.proofs.find_route.Goals as goal

pub returns-in_err-fill : goal.returns-in_err-fill
returns-in_err-fill c = absurd (fill_never _ _ _ _ (sym c.in_ok-ends.ensures.tested) _ _ c.in_err-fill.ensures)

pub read_from-requires : goal.read_from-requires
read_from-requires c =
    let ends = c.in_ok-ends.ensures in
    filled _ _ _ _ (sym ends.tested) _ ends.placed _ c.in_ok-fill.ensures

pub returns : goal.returns
returns c =
    let ends = c.in_ok-ends.ensures in
    find_done _ _ _ _ (sym ends.tested) _ ends.placed _ _ _ c.read_from.ensures _ c.in_ok-fill.ensures
