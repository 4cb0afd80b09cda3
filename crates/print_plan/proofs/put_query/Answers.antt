-- `print_plan::put_query` meets its contract: the table lent has an entry for each cell, and what finding a route answered
-- is what the query's line says.
use mathlib.Core.Path.{◌≡◌}
use mathlib.Core.List.{List}
use Prim.Native.Nat.{ℕ, ◌≤◌}
use native.Mathlib.Omega.{arith}
use lib.ListN.{length, take, length-take}
use Rattle.floor.specs.Lent.{floor_map}
use Rattle.steps.proofs.OnMap.{few_cells}
use Rattle.print_plan.proofs.QueryAnswer.{fits, query_line}
use Rattle.print_plan.proofs.put_query.Goals as goal

-- the first so many entries of the table
entries : (cells n : ℕ) (table : List ℕ) → length table ≡ 16384 → cells ≤ 16384 → n ≡ cells → length (take n table) ≡ cells
entries cells n table whole few e = simp length-take (omega arith)

pub slice_bounds-find_route-end : goal.slice_bounds-find_route-end
slice_bounds-find_route-end c = omega (arith, few_cells (floor_map c.args.floor.now) c.args.floor.now.sound, c.cells-cells.ensures)

pub put_answer-requires-clause-fits : goal.put_answer-requires-clause-fits
put_answer-requires-clause-fits c =
    let m = floor_map c.args.floor.now in
    let sound = c.args.floor.now.sound in
    let cells = entries _ _ _ c.told-table (few_cells m sound) c.cells-cells.ensures in
    fits m c.args.query sound _ _ _ _ cells c.told-legs c.find_route-answer.result c.find_route-answer.ensures

pub returns : goal.returns
returns c =
    let m = floor_map c.args.floor.now in
    let sound = c.args.floor.now.sound in
    let cells = entries _ _ _ c.told-table (few_cells m sound) c.cells-cells.ensures in
    let w = c.put_answer.ensures in
    record {
      bytes = w.bytes;
      is = query_line m c.args.query sound _ _ _ _ cells c.told-legs _ _ c.find_route-answer.result _ c.find_route-answer.ensures w.is;
      line_put = w.line_put;
    }
