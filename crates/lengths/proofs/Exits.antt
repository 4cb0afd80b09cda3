-- What comparing and the distance spoken give where no test refuses.
use mathlib.Core.Path.{◌≡◌, refl}
use mathlib.Core.List.{[], ◌∷◌}
use mathlib.Core.Bool.{Bool, true, false}
use Prim.Native.Nat.{ℕ, ◌+◌, ◌*◌}
use Rattle.answers.specs.Refusing.{done}
use Rattle.answers.specs.Bools.{pick}
use Rattle.lengths.specs.declared.Length.{Length}
use Rattle.lengths.specs.Distance.{Nearest, Spoken}
use Rattle.lengths.specs.Answers.{order_given}

-- what comparing gives says which is shorter
pub ordered : (b t : Bool) → b ≡ t → done (order_given b) ≡ done (pick t 1 0 ∷ [])
ordered true t e = rw (← e)
ordered false t e = rw (← e)

-- the distance given is the one spoken
pub spoken : (size : ℕ) (l : Length) (part : ℕ) → Nearest (size * l.diagonal) part
    → (n : ℕ) × (done ((size * l.straight + part) ∷ []) ≡ done (n ∷ [])) × Spoken size l n
spoken size l part near = (size * l.straight + part, refl, record { part = part; nearest = near; sum = refl })
