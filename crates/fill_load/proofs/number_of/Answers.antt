-- `fill_load::number_of` meets its contract: the cell's number is read off the table, by its byte's four bits.
use Rattle.fill_load.proofs.Fours.{fours, fours_right, number_read}
use Rattle.fill_load.proofs.number_of.Goals as goal

pub returns : goal.returns
unfolding fours
returns c = number_read fours fours_right _ c.ranges.byte.fits _ c.requires
