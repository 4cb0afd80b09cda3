-- `calls::ends_of` meets its contract: what passed 7 and 8 stands on the floor and is open, and what passed 4 has an
-- entry for each cell.
use mathlib.Core.Path.{sym}
use Rattle.floor.specs.Lent.{given, floor_map}
use Rattle.floor.proofs.Tested.{largest_low}
use Rattle.calls.proofs.Called.{both_stand, open_cell, aimed, placed}
use Rattle.calls.proofs.ends_of.Goals as goal

pub floor_within-requires : goal.floor_within-requires
floor_within-requires c = largest_low

pub cell_of-requires : goal.cell_of-requires
cell_of-requires c =
    let at = (both_stand (floor_map c.in_ok-floor.floor) _ c.args.goal (sym c.in_ok-test_places.ensures)).1 in
    (at.column_on, at.row_on)

pub cell_of-requires-2 : goal.cell_of-requires-2
cell_of-requires-2 c =
    let at = (both_stand (floor_map c.in_ok-floor.floor) _ c.args.goal (sym c.in_ok-test_places.ensures)).0 in
    (at.column_on, at.row_on)

pub invariant_of-goal : goal.invariant_of-goal
invariant_of-goal c =
    let at = (both_stand (floor_map c.in_ok-floor.floor) _ c.args.goal (sym c.in_ok-test_places.ensures)).1 in
    record { chosen = open_cell (floor_map c.in_ok-floor.floor) c.args.goal _ c.cell_of.ensures at }

pub invariant_of-result : goal.invariant_of-result
invariant_of-result c =
    let at = (both_stand (floor_map c.in_ok-floor.floor) _ c.args.goal (sym c.in_ok-test_places.ensures)).0 in
    record { begun = open_cell (floor_map c.in_ok-floor.floor) c.args.start _ c.cell_of-2.ensures at }

pub returns-clause-placed : goal.returns-clause-placed
returns-clause-placed c =
    placed (given c.args.map.now) _ _ _ _
    (aimed (given c.args.map.now) _ _ _ c.in_ok-floor.ensures.same (sym c.in_ok-test_table.ensures) c.cell_of.ensures)
    c.cell_of-2.ensures
