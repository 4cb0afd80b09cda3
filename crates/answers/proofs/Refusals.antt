-- The laws of tests in their order: what passing shows of each, how an answer is shown to be right, and that there is
-- one.
use mathlib.Core.Path.{◌≡◌, refl, sym, ◌∙◌, ap}
use mathlib.Core.Bool.{Bool, true, false, true≢false}
use mathlib.Core.List.{List, [], ◌∷◌}
use Prim.Native.Nat.{ℕ}
use native.Mathlib.Omega.{arith}
use Rattle.std.specs.Prelude.{Result, Ok, Err, IsErr, IsErrAnd}
use Rattle.std.proofs.lemmas.Result.{err_from_is_err_and}
use Rattle.answers.specs.declared.Refusal.{Refusal}
use Rattle.answers.specs.Refusing.{Tested, Given, done, refused, refuse, first_refusal, outcome, Answered, gives}

pub not_passed : {A : Type 0} {a : A} {f : Refusal} → ◌≡◌ {A = Result A Refusal} (Err f) (Ok a) → ⊥
not_passed e = let z : ◌≡◌ {A = ℕ} 0 1 = cc in omega arith

pub never : {vs : List ℕ} {f : Refusal} → done vs ≡ refused f → ⊥
never e = let z : ◌≡◌ {A = ℕ} 0 1 = cc in omega arith

-- each of these tests passes
abbrev pub AllPassed : List Tested → Type 0
AllPassed [] = Unit {0}
AllPassed (t ∷ ts) = (t ≡ Ok tt) × AllPassed ts

-- where none refuses, each passes: `search` finds any of them in this, wherever it stands in the list
pub all_passed : (ts : List Tested) → first_refusal ts ≡ Ok tt → AllPassed ts
unfolding first_refusal
all_passed [] e = tt
all_passed (Ok u ∷ ts) e = (refl, all_passed ts e)
all_passed (Err f ∷ ts) e = absurd (not_passed e)

pub passed_all : (ts : List Tested) → AllPassed ts → first_refusal ts ≡ Ok tt
unfolding first_refusal
passed_all [] a = refl
passed_all (Ok u ∷ ts) a = passed_all ts a.1
passed_all (Err f ∷ ts) a = absurd (not_passed a.0)

-- the condition of a test that passed does not hold
pub refuse_passed : (f : Refusal) (b : Bool) → refuse f b ≡ Ok tt → b ≡ false
unfolding refuse
refuse_passed f true e = absurd (not_passed e)
refuse_passed f false e = refl

pub refuse_passes : (f : Refusal) (b : Bool) → b ≡ false → Ok tt ≡ refuse f b
unfolding refuse
refuse_passes f true e = absurd (true≢false e)
refuse_passes f false e = refl

pub refuse_refused : (f g : Refusal) (b : Bool) → refuse f b ≡ Err g → (b ≡ true) × (f ≡ g)
unfolding refuse
refuse_refused f g true e = (refl, cc)
refuse_refused f g false e = absurd (not_passed (sym e))

module _ {K : Type 0} {D : Given → Type 0} where
  -- the first refusal is given, with everything kept
  pub refused_given : (tested : Tested) (f : Refusal) → tested ≡ Err f → K → Answered tested K D (refused f)
  refused_given tested f e k = record {
    refuses = λ g p. let same : ◌≡◌ {A = Tested} (Err f) (Err g) = sym e ∙ p in cc;
    keeps = λ g p. k;
    does = λ p. absurd (not_passed (sym e ∙ p));
  }

  -- no test refuses, and the work is done
  pub work_done : (tested : Tested) (g : Given) → tested ≡ Ok tt → D g → Answered tested K D g
  work_done tested g e d = record {
    refuses = λ f p. absurd (not_passed (sym p ∙ e));
    keeps = λ f p. absurd (not_passed (sym p ∙ e));
    does = λ p. d;
  }

-- How a call that tests with `?` is shown to have answered: at each test it goes on, or hands the refusal up, and after
-- the last it does its work.
module _ {K : Type 0} {D : Given → Type 0} where
  -- this test refuses
  pub ends_here : (t : Tested) (ts : List Tested) (f : Refusal) → Err f ≡ t → K → Answered (first_refusal (t ∷ ts)) K D (refused f)
  unfolding first_refusal
  ends_here t ts f e k = refused_given _ f (rw (← e)) k

  -- this test is passed, and later ones settle the answer
  pub goes_on : (t : Tested) (ts : List Tested) (g : Given) → Ok tt ≡ t → Answered (first_refusal ts) K D g → Answered (first_refusal (t ∷ ts)) K D g
  unfolding first_refusal
  goes_on t ts g e a = rw (← e) a

  -- no test is left
  pub comes_through : (g : Given) → D g → Answered (first_refusal []) K D g
  unfolding first_refusal
  comes_through g d = work_done _ g refl d

  -- a `?` hands the refusal up
  pub handed_up : {A : Type 0} (values : A → List ℕ) (r : Result A Refusal) (f : Refusal) (t : Tested)
      → IsErr r × IsErrAnd r (λ e. e ≡ f) → Answered t K D (refused f) → Answered t K D (gives values r)
  handed_up values r f t e a = let p = err_from_is_err_and r e.1 in rw (p.1, p.2) a

-- a call whose work has one answer, and leaves the buffers in one state (Same), has one answer and leaves them in one
-- state
pub answered_once : (tested : Tested) {Same K K' : Type 0} {D D' : Given → Type 0} {g g' : Given}
    → (K → K' → Same) → (D g → D' g' → (g ≡ g') × Same) → Answered tested K D g → Answered tested K' D' g' → (g ≡ g') × Same
answered_once (Ok u) kept one p q = one (p.does refl) (q.does refl)
answered_once (Err f) kept one p q = (p.refuses f refl ∙ sym (q.refuses f refl), kept (p.keeps f refl) (q.keeps f refl))

-- what is given back tells answers apart, where the values tell those of a call that is done
pub gives_apart : {A : Type 0} (values : A → List ℕ) → ((a b : A) → values a ≡ values b → a ≡ b)
    → (r s : Result A Refusal) → gives values r ≡ gives values s → r ≡ s
gives_apart values apart (Ok a) (Ok b) e = ap Ok (apart a b (let z = e in cc))
gives_apart values apart (Ok a) (Err f) e = absurd (never e)
gives_apart values apart (Err f) (Ok b) e = absurd (never (sym e))
gives_apart values apart (Err f) (Err g) e = cc
