-- `fill_bands::goal_steps` meets its contract. The invariant: the goal's places before i have taken their steps.
use Rattle.std.proofs.Common.{arith}
use Rattle.fill_bands.proofs.FirstBand.{in_band}
use Rattle.fill_bands.proofs.OnePass.{one_more}
use Rattle.fill_bands.proofs.goal_steps.Goals as goal

pub loop-from-preserved : goal.loop-from-preserved
loop-from-preserved c =
    let b = in_band _ _ c.requires.loaded _ c.requires.goals _ c.loop-from-test.true in
    record {
      work = cc;
      queue = cc;
      work_size = cc;
      queue_size = cc;
      did = one_more _ _ _ _ _ _ _ _ _ c.loop-from.invariant.did (omega arith) b _ _ _ c.cell_steps.ensures.did;
    }
