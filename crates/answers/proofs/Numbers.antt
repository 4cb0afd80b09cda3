-- The number given back and what comes with it tell refusals apart.
use mathlib.Core.Path.{◌≡◌, refl, sym, ◌∙◌, ap₂}
use Prim.Native.Nat.{ℕ}
use lib.Dec.{eqb}
use Rattle.answers.specs.Bools.{pick}
use Rattle.answers.specs.declared.Refusal.{Refusal}
use Rattle.answers.specs.declared.Refusal.TheVariants as refusal
use Rattle.answers.specs.Numbers.{number_of, place_of}

-- the refusal with a number, and what comes with it
abbrev refusal_of : ℕ → ℕ → Refusal
refusal_of n place =
    pick (eqb n 1) refusal.SidesOutside
    (pick (eqb n 2) refusal.MapLength
    (pick (eqb n 3) refusal.BitPastWidth
    (pick (eqb n 4) refusal.TableLength
    (pick (eqb n 5) refusal.StartOffFloor
    (pick (eqb n 6) refusal.GoalOffFloor
    (pick (eqb n 7) refusal.StartBlocked
    (pick (eqb n 8) refusal.GoalBlocked
    (pick (eqb n 9) refusal.NoWay
    (pick (eqb n 10) (refusal.LegsShort place)
    (pick (eqb n 11) (refusal.TableWrong place)
    (pick (eqb n 12) refusal.LengthAbove
    (pick (eqb n 13) refusal.SizeOutside (refusal.PlanBroken place)))))))))))))

back : (f : Refusal) → refusal_of (number_of f) (place_of f) ≡ f
back refusal.SidesOutside = refl
back refusal.MapLength = refl
back refusal.BitPastWidth = refl
back refusal.TableLength = refl
back refusal.StartOffFloor = refl
back refusal.GoalOffFloor = refl
back refusal.StartBlocked = refl
back refusal.GoalBlocked = refl
back refusal.NoWay = refl
back (refusal.LegsShort legs) = refl
back (refusal.TableWrong cell) = refl
back refusal.LengthAbove = refl
back refusal.SizeOutside = refl
back (refusal.PlanBroken offset) = refl

pub told_apart : (f g : Refusal) → number_of f ≡ number_of g → place_of f ≡ place_of g → f ≡ g
told_apart f g n p = sym (back f) ∙ ap₂ refusal_of n p ∙ back g
