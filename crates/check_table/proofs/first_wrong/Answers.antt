-- The pass over the rows meets its contract: each way out of a row is a law of proofs/RowByRow.
use mathlib.Core.Path.{◌≡◌, subst}
use Prim.Native.Nat.{ℕ}
use native.Mathlib.Omega.{arith}
use Rattle.floor.specs.Lent.{floor_map}
use Rattle.check_table.proofs.RowByRow.{BeforeRow, going_first, found, went_on, all_rows}
use Rattle.check_table.proofs.first_wrong.Goals as goal

pub loop-row-init : goal.loop-row-init
loop-row-init c =
    let goal = c.args.goal.now in
    going_first (floor_map goal.floor) _ goal.cell goal.floor.sound goal.chosen _ _ c.walls-window.ensures c.show.ensures

pub returns-in-Some : goal.returns-in-Some
returns-in-Some c =
    let goal = c.args.goal.now in
    found (floor_map goal.floor) _ goal.cell goal.floor.sound goal.chosen _ _ _ c.loop-row-test.true c.loop-row.invariant
    c.show-in-loop-row.ensures _ c.in-Some.ensures

pub loop-row-preserved : goal.loop-row-preserved
loop-row-preserved c =
    let goal = c.args.goal.now in
    went_on (floor_map goal.floor) _ goal.cell goal.floor.sound goal.chosen _ _ _ c.loop-row-test.true c.loop-row.invariant
    c.show-in-loop-row.ensures _ c.in_default.ensures c.move_down.ensures

pub returns : goal.returns
returns c =
    let goal = c.args.goal.now in
    let m = floor_map goal.floor in
    let e : c.loop-row.row ≡ m.height = omega arith in
    all_rows m _ goal.cell goal.floor.sound goal.chosen _ (subst (λ (r : ℕ). BeforeRow m c.args.table.now goal.cell r c.loop-row.window.numbers) e c.loop-row.invariant)
