-- What accepting a floor gives back.
use Rattle.std.specs.Prelude.{◌≡◌, List, [], ◌∷◌, ℕ, Result}
use Rattle.answers.specs.declared.Refusal.{Refusal}
use Rattle.answers.specs.Refusing.{done, Answered, gives}
use Rattle.floor.specs.declared.Sides.{Sides}
use Rattle.floor.specs.Floor.{Map, largest_side}
use Rattle.floor.specs.Tests.{floor_tested}

-- an accepted floor is given back as its sides
abbrev pub sides_given : Sides → List ℕ
sides_given s = s.width ∷ s.height ∷ []

abbrev pub Accepts : Map → Result Sides Refusal → Type 0
Accepts m r = Answered (floor_tested largest_side m) (Unit {0}) (λ g. g ≡ done (m.width ∷ m.height ∷ [])) (gives sides_given r)
