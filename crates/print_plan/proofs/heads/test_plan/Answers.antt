-- `print_plan::heads::test_plan` meets its contract: its tests are those of the list.
use Rattle.floor.proofs.Tested.{largest_low}
use Rattle.print_plan.proofs.heads.test_plan.Goals as goal

pub floor_within-requires : goal.floor_within-requires
floor_within-requires c = largest_low
