-- `fill_steps::Spread::lower` meets its contract: a lower number leaves the room that there is.
use Rattle.std.proofs.Common.{arith}
use Rattle.fill_steps.proofs.Changed.{room_lower}
use Rattle.fill_steps.proofs.Spread.lower.Goals as goal

pub invariant_of-self : goal.invariant_of-self
invariant_of-self c = record { room = room_lower _ _ _ _ _ (omega arith) c.args.self.now.room }
