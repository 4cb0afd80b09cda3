-- What comparing and the distance spoken give back.
use Rattle.std.specs.Prelude.{◌≡◌, Bool, true, false, List, [], ◌∷◌, ℕ, ltb, Result}
use Rattle.answers.specs.declared.Refusal.{Refusal}
use Rattle.answers.specs.declared.Refusal.TheVariants as refusal
use Rattle.answers.specs.Bools.{pick, either}
use Rattle.answers.specs.Refusing.{Tested, done, refuse, first_refusal, Answered, gives}
use Rattle.lengths.specs.declared.Length.{Length}
use Rattle.lengths.specs.Order.{shorter}
use Rattle.lengths.specs.Distance.{Spoken}

-- the limit of a part: no shortest way on any floor has more steps
abbrev pub way_part : ℕ
way_part = 16383

-- 12: a length part above the limit
unfoldable pub part_above : ℕ → Length → Bool
part_above limit l = either (ltb limit l.straight) (ltb limit l.diagonal)

-- 13: a cell of no width, or wider than ten metres
unfoldable pub size_outside : ℕ → Bool
size_outside size = either (ltb size 1) (ltb 1000 size)

-- comparing gives 1 where the first is shorter, 0 where it is not
abbrev pub order_given : Bool → List ℕ
order_given true = 1 ∷ []
order_given false = 0 ∷ []

-- Compare: 12
abbrev pub compare_tests : Length → Length → List Tested
compare_tests a b = refuse refusal.LengthAbove (part_above way_part a) ∷ refuse refusal.LengthAbove (part_above way_part b) ∷ []

abbrev pub Compares : Length → Length → Result Bool Refusal → Type 0
Compares a b r =
    Answered (first_refusal (compare_tests a b)) (Unit {0}) (λ g. g ≡ done (pick (shorter a b) 1 0 ∷ [])) (gives order_given r)

-- the distance gives its centimetres
abbrev pub centimetres_given : ℕ → List ℕ
centimetres_given n = n ∷ []

-- for the distance 12 before 13
abbrev pub distance_tests : ℕ → Length → List Tested
distance_tests size l = refuse refusal.LengthAbove (part_above way_part l) ∷ refuse refusal.SizeOutside (size_outside size) ∷ []

abbrev pub Speaks : ℕ → Length → Result ℕ Refusal → Type 0
Speaks size l r =
    Answered (first_refusal (distance_tests size l)) (Unit {0}) (λ g. (n : ℕ) × (g ≡ done (n ∷ [])) × Spoken size l n)
    (gives centimetres_given r)
