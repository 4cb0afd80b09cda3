-- REFERENCE, "Numbers given back": the tests of a call in their order, the first that refuses, and what the call then
-- gives back.
use Rattle.std.specs.Prelude.{◌≡◌, Bool, List, [], ◌∷◌, ℕ, Result, Ok, Err}
use Rattle.answers.specs.declared.Refusal.{Refusal}
use Rattle.answers.specs.Bools.{pick}

-- what a test answers, or several in their order: that it is passed, or the refusal that ends the call
abbrev pub Tested : Type 0
Tested = Result (Unit {0}) Refusal

-- what a call gives back: values, with 0 as the number, or a refusal
pub data Given : Type 0 where
  done : List ℕ → Given
  refused : Refusal → Given

-- a test: it refuses where the condition holds
unfoldable pub refuse : Refusal → Bool → Tested
refuse f holds = pick holds (Err f) (Ok tt)

-- the first of these tests that refuses; or none does
unfoldable pub first_refusal : List Tested → Tested
first_refusal [] = Ok tt
first_refusal (Ok u ∷ ts) = first_refusal ts
first_refusal (Err f ∷ ts) = Err f

-- what came of a call, but for its value
abbrev pub outcome : {A : Type 0} → Result A Refusal → Tested
outcome (Ok a) = Ok tt
outcome (Err f) = Err f

-- a refusal ends the call there: it alone is given, and everything lent is kept; where none refuses, the call does its
-- work
pub record Answered (tested : Tested) (Kept : Type 0) (Done : Given → Type 0) (g : Given) : Type 0 where
  pub refuses : (f : Refusal) → tested ≡ Err f → g ≡ refused f
  pub keeps : (f : Refusal) → tested ≡ Err f → Kept
  pub does : tested ≡ Ok tt → Done g

-- what a call gives back: the values of its answer in their order, or the refusal
abbrev pub gives : {A : Type 0} → (A → List ℕ) → Result A Refusal → Given
gives values (Ok a) = done (values a)
gives values (Err f) = refused f

-- a call whose answer has no values
abbrev pub no_values : Unit {0} → List ℕ
no_values u = []
