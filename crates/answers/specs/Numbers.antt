-- REFERENCE, "Numbers given back": the number of each refusal, and what comes with it.
use Rattle.std.specs.Prelude.{ℕ}
use Rattle.answers.specs.declared.Refusal.{Refusal}
use Rattle.answers.specs.declared.Refusal.TheVariants as refusal

abbrev pub number_of : Refusal → ℕ
number_of refusal.SidesOutside = 1
number_of refusal.MapLength = 2
number_of refusal.BitPastWidth = 3
number_of refusal.TableLength = 4
number_of refusal.StartOffFloor = 5
number_of refusal.GoalOffFloor = 6
number_of refusal.StartBlocked = 7
number_of refusal.GoalBlocked = 8
number_of refusal.NoWay = 9
number_of (refusal.LegsShort legs) = 10
number_of (refusal.TableWrong cell) = 11
number_of refusal.LengthAbove = 12
number_of refusal.SizeOutside = 13
number_of (refusal.PlanBroken offset) = 14

-- the leg count, the first cell that differs, or the offset of the break; 0 with every other
abbrev pub place_of : Refusal → ℕ
place_of refusal.SidesOutside = 0
place_of refusal.MapLength = 0
place_of refusal.BitPastWidth = 0
place_of refusal.TableLength = 0
place_of refusal.StartOffFloor = 0
place_of refusal.GoalOffFloor = 0
place_of refusal.StartBlocked = 0
place_of refusal.GoalBlocked = 0
place_of refusal.NoWay = 0
place_of (refusal.LegsShort legs) = legs
place_of (refusal.TableWrong cell) = cell
place_of refusal.LengthAbove = 0
place_of refusal.SizeOutside = 0
place_of (refusal.PlanBroken offset) = offset
