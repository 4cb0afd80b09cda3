-- `floor::accept` meets its contract.
use Rattle.floor.proofs.Tested.{largest_low}
use Rattle.floor.proofs.accept.Goals as goal

pub floor_within-requires : goal.floor_within-requires
floor_within-requires c = largest_low
