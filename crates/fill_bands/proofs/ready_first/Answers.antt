-- `fill_bands::ready_first` meets its contract. The invariant: the cells before i are parted.
use Rattle.std.proofs.Common.{◌<◌, length, length-set, arith}
use Rattle.std.proofs.lemmas.List.Edits.{swap_is, swapped_from_swap}
use Rattle.fill_bands.proofs.Parting.{counted, parted_step, parted_all}
use Rattle.fill_bands.proofs.ready_first.Goals as goal

pub loop-i-preserved : goal.loop-i-preserved
loop-i-preserved c =
    let k = c.loop-i.invariant.did in
    let b = counted _ _ _ _ c.from-top.ensures (rw k.0 at c.is_ready-in-loop-i.ensures) in
    let m : c.loop-i.i < length c.loop-i.spread.queue.now = omega (arith, c.loop-i.spread.room, k.1) in
    let n : c.loop-i.top < length c.loop-i.spread.queue.now = omega (arith, k.2.order) in
    let w = swapped_from_swap _ _ _ _ 0 m n (swap_is _ _ _ 0 m n) in
    record {
      work = c.loop-i.invariant.work;
      queue = c.loop-i.invariant.queue;
      work_size = c.loop-i.invariant.work_size;
      queue_size = simp length-set c.loop-i.invariant.queue_size;
      did = (k.0, k.1, parted_step _ _ _ _ _ _ _ _ _ k.2 w b);
    }

pub returns : goal.returns
returns c =
    let k = c.loop-i.invariant in
    record {
      work = k.work;
      queue = k.queue;
      work_size = k.work_size;
      queue_size = k.queue_size;
      did = record { cells = k.did.0; end = k.did.1; parted = parted_all _ _ _ _ _ _ _ _ k.did.2 (c.loop-i.auto.i-end (omega arith)) c.loop-i-test.false };
    }
