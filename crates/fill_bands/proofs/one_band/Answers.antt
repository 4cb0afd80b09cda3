-- `fill_bands::one_band` meets its contract: its fresh cells are parted, and those that waited and the ready ones take
-- their steps.
use Rattle.fill_bands.proofs.OnePass.{pass_left}
use Rattle.fill_bands.proofs.one_band.Goals as goal

pub returns : goal.returns
returns c =
    let p = c.ready_first-waiting.ensures.did in
    let size = c.ready_first-waiting.ensures.queue_size in
    record {
      work = cc;
      queue = cc;
      work_size = cc;
      queue_size = cc;
      did = pass_left _ _ _ _ _ _ _ _ p.parted size _ _ _ (rw (p.cells, p.end) at c.ready_steps.ensures.did);
    }
