-- `route::route_from_table` meets its contract: what the check refuses is the verdict, and what is read from a right
-- table is the answer.
use mathlib.Core.Path.{sym}
use Rattle.route.proofs.Exits.{check_wrong, table_filled, read_done}
use Rattle.route.proofs.route_from_table.Goals as goal

pub returns-in-Err : goal.returns-in-Err
returns-in-Err c = check_wrong _ _ _ _ (sym c.in_ok-ends.ensures.tested) _ _ c.in-Err.ensures

pub read_from-requires : goal.read_from-requires
read_from-requires c =
    let ends = c.in_ok-ends.ensures in
    table_filled _ _ _ _ (sym ends.tested) _ ends.placed c.in-Ok.ensures

pub returns-in-Ok : goal.returns-in-Ok
returns-in-Ok c =
    let ends = c.in_ok-ends.ensures in
    read_done _ _ _ _ (sym ends.tested) _ ends.placed _ _ _ c.read_from.ensures c.in-Ok.ensures
