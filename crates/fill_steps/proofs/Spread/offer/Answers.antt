-- `fill_steps::Spread::offer` meets its contract: the queue grows where the cell was not reached and now is.
use Rattle.std.proofs.Common.{ℕ, ◌/◌, ap, arith}
use Rattle.fill_steps.specs.inner.Work.{unreached}
use Rattle.fill_steps.proofs.Changed.{lowered_made, new_counts}
use Rattle.fill_steps.proofs.Spread.offer.Goals as goal

pub invariant_of-self : goal.invariant_of-self
invariant_of-self c =
    let n = new_counts _ _ _ _ (omega arith) (omega arith) c.from.ensures c.is_new.ensures in
    let least = ap (λ (z : ℕ). z / unreached) c.min.ensures in
    record { room = (lowered_made _ _ _ _ _ _ _ _ _ _ c.args.self.now.room c.lower-before.ensures.did (omega (arith, n, least))).room }

pub returns : goal.returns
returns c =
    let n = new_counts _ _ _ _ (omega arith) (omega arith) c.from.ensures c.is_new.ensures in
    let least = ap (λ (z : ℕ). z / unreached) c.min.ensures in
    let l = c.lower-before.ensures in
    record {
      work = l.work;
      queue = l.queue;
      work_size = l.work_size;
      queue_size = l.queue_size;
      did = lowered_made _ _ _ _ _ _ _ _ _ _ c.args.self.now.room l.did (omega (arith, n, least));
    }
