-- `fill_bands::ready_steps` meets its contract. The invariant: the cells before i have taken their steps, in every band
-- whose cells they are.
use Rattle.fill_bands.proofs.OnePass.{steps_more}
use Rattle.fill_bands.proofs.ready_steps.Goals as goal

pub loop-i-preserved : goal.loop-i-preserved
loop-i-preserved c = record {
  work = cc;
  queue = cc;
  work_size = cc;
  queue_size = cc;
  did = λ w r.
      steps_more w _ _ _ _ _ r _ _ _ _ (c.loop-i.invariant.did w r) c.loop-i.auto.i c.loop-i-test.true _ _ _ c.cell_steps.ensures.did;
}
