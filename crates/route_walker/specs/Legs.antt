-- REFERENCE, "Routes and legs": the legs of a route, and their bytes.
use Rattle.std.specs.Prelude.{◌≡◌, ℕ, zero, suc, ◌<◌, ◌≢◌, List, [], ◌∷◌}

pub record Leg : Type 0 where
  pub heading : ℕ
  pub count : ℕ

-- n times the heading h, then hs
abbrev pub again : ℕ → ℕ → List ℕ → List ℕ
again zero h hs = hs
again (suc n) h hs = h ∷ again n h hs

-- the headings of legs, one after the other
abbrev pub join : List Leg → List ℕ
join [] = []
join (a ∷ ls) = again a.count a.heading (join ls)

-- the first of these legs has another heading than h
abbrev pub OtherFirst : ℕ → List Leg → Type 0
OtherFirst h [] = Unit {0}
OtherFirst h (a ∷ ls) = h ≢ a.heading

-- every leg has a step, and its heading differs from the next one's, so that it is a longest run
abbrev pub Proper : List Leg → Type 0
Proper [] = Unit {0}
Proper (a ∷ ls) = (0 < a.count) × (OtherFirst a.heading ls × Proper ls)

-- ls are the legs of hs
pub record Legs (hs : List ℕ) (ls : List Leg) : Type 0 where
  pub joined : join ls ≡ hs
  pub proper : Proper ls

-- their bytes
abbrev pub bytes : List Leg → List ℕ
bytes [] = []
bytes (a ∷ ls) = a.heading ∷ (a.count ∷ bytes ls)
