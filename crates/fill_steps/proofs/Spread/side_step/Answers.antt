-- `fill_steps::Spread::side_step` meets its contract: the heading leads to a place of the array, and the number counts,
-- so a cell that was not reached now is.
use Rattle.std.proofs.Common.{arith}
use Rattle.fill_steps.proofs.Changed.{lowered_made, all_count}
use Rattle.fill_steps.proofs.InWork.{in_work}
use Rattle.fill_steps.proofs.Spread.side_step.Goals as goal

pub lower-before-requires : goal.lower-before-requires
lower-before-requires c = omega (arith, c.place_of.ensures, in_work _ _ _ c.args.heading.known c.requires.off_border)

pub invariant_of-self : goal.invariant_of-self
invariant_of-self c =
    let l = c.lower-before.ensures.did in
    let n = all_count c.lower-before.result (omega arith) in
    record { room = (lowered_made _ _ _ _ _ _ _ _ _ _ c.args.self.now.room l (omega (arith, n, c.requires.counts))).room }

pub returns : goal.returns
returns c =
    let l = c.lower-before.ensures in
    let e = c.place_of.ensures in
    let n = all_count c.lower-before.result (omega arith) in
    record {
      work = l.work;
      queue = l.queue;
      work_size = l.work_size;
      queue_size = l.queue_size;
      did = record {
        offer = rw (← e) (lowered_made _ _ _ _ _ _ _ _ _ _ c.args.self.now.room l.did (omega (arith, n, c.requires.counts)));
        mask = rw (l.did.before, e) at c.mask_of-mask.ensures;
      };
    }
