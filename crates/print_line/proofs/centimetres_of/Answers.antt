-- `print_line::centimetres_of` meets its contract: the distance is not refused.
use Rattle.print_line.proofs.Spoken.{heard}
use Rattle.print_line.proofs.centimetres_of.Goals as goal

pub unwrap-requires : goal.unwrap-requires
unwrap-requires c = heard _ _ c.args.size.inside c.requires c.distance_spoken.result c.distance_spoken.ensures
