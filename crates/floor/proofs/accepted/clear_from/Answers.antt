-- `clear_from` meets its contract: what the mask leaves of the byte (`clear`).
use native.Mathlib.Omega.{arith}
use Rattle.floor.proofs.Masks.{masks, clear}
use Rattle.floor.proofs.accepted.clear_from.Goals as goal

pub returns : goal.returns
unfolding masks
returns c = clear c.args.byte c.args.k (omega arith) (omega arith)
