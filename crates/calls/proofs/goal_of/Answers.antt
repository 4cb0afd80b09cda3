-- `calls::goal_of` meets its contract: what passed 8 stands on the floor and is open, and what passed 4 has an entry
-- for each cell.
use mathlib.Core.Path.{sym}
use Rattle.floor.specs.Lent.{given, floor_map}
use Rattle.floor.proofs.Tested.{stands, largest_low}
use Rattle.calls.proofs.Called.{open_cell, aimed}
use Rattle.calls.proofs.goal_of.Goals as goal

pub floor_within-requires : goal.floor_within-requires
floor_within-requires c = largest_low

pub cell_of-requires : goal.cell_of-requires
cell_of-requires c =
    let at = stands _ (floor_map c.in_ok-floor.floor) c.args.goal (sym c.in_ok-test_open.ensures) in
    (at.column_on, at.row_on)

pub invariant_of-result : goal.invariant_of-result
invariant_of-result c =
    let at = stands _ (floor_map c.in_ok-floor.floor) c.args.goal (sym c.in_ok-test_open.ensures) in
    record { chosen = open_cell (floor_map c.in_ok-floor.floor) c.args.goal _ c.cell_of.ensures at }

pub returns-clause-aimed : goal.returns-clause-aimed
returns-clause-aimed c = aimed (given c.args.map.now) _ _ _ c.in_ok-floor.ensures.same (sym c.in_ok-test_table.ensures) c.cell_of.ensures
