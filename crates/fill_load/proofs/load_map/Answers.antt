-- `fill_load::load_map` meets its contract. The invariant: the rows before this one are loaded.
use mathlib.Core.Path.{◌∙◌}
use native.Mathlib.Omega.{arith}
use Rattle.floor.specs.Lent.{floor_map}
use Rattle.fill_load.proofs.MapLoaded.{prefix_row}
use Rattle.fill_load.proofs.load_map.Goals as goal

pub loop-row-preserved : goal.loop-row-preserved
loop-row-preserved c = record {
  inside = omega (arith, c.loop-row-test.true);
  size = c.load_row.auto.work ∙ c.loop-row.invariant.size;
  prefix = prefix_row (floor_map c.args.floor.now) c.args.floor.now.sound _ _ c.load_row.ensures;
}
