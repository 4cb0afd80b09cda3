-- No second answer meets the contract of comparing, nor that of the distance spoken, each as the checker reads it.
use mathlib.Core.Path.{◌≡◌, refl, sym, ◌∙◌, ap}
use mathlib.Core.Bool.{Bool, true, false}
use mathlib.Core.List.{[], ◌∷◌}
use Prim.Native.Nat.{ℕ}
use native.Mathlib.Omega.{arith}
use Rattle.std.specs.Prelude.{Result}
use Rattle.answers.specs.declared.Refusal.{Refusal}
use Rattle.answers.specs.Refusing.{Given, done}
use Rattle.answers.proofs.Refusals.{answered_once, gives_apart}
use Rattle.lengths.specs.declared.Length.{Length}
use Rattle.lengths.specs.Distance.{Spoken}
use Rattle.lengths.specs.Answers.{order_given, Compares, centimetres_given, Speaks}
use Rattle.lengths.proofs.Rounding.{spoken_unique}
use Rattle.lengths.proofs.compare.Reads as compare-reads
use Rattle.lengths.proofs.distance_spoken.Reads as distance-reads

-- what is given back tells the answers apart
orders_apart : (a b : Bool) → order_given a ≡ order_given b → a ≡ b
orders_apart true true e = refl
orders_apart true false e = let z : ◌≡◌ {A = ℕ} 1 0 = cc in absurd (omega arith)
orders_apart false true e = let z : ◌≡◌ {A = ℕ} 0 1 = cc in absurd (omega arith)
orders_apart false false e = refl

centimetres_apart : (n m : ℕ) → centimetres_given n ≡ centimetres_given m → n ≡ m
centimetres_apart n m e = cc

pub compares_only : (a b : Length) (r r' : Result Bool Refusal) → Compares a b r → Compares a b r' → r ≡ r'
compares_only a b r r' p q =
    gives_apart order_given orders_apart r r' (answered_once _ (λ k l. k) (λ d e. (d ∙ sym e, tt)) p q).0

pub compare_only : (κs : _) (a : _) (r r' : _) (x x' : _) → compare-reads.Post κs a r x → compare-reads.Post κs a r' x' → r ≡ r'
compare_only κs a r r' x x' p q = compares_only _ _ r r' p q

same_distance : (size : ℕ) (l : Length) (g h : Given)
    → ((n : ℕ) × (g ≡ done (n ∷ [])) × Spoken size l n) → ((n : ℕ) × (h ≡ done (n ∷ [])) × Spoken size l n) → g ≡ h
same_distance size l g h a b =
    let (n, e, s) = a in
    let (k, f, t) = b in
    e ∙ ap (λ (i : ℕ). done (i ∷ [])) (spoken_unique size l n k s t) ∙ sym f

pub speaks_only : (size : ℕ) (l : Length) (r r' : Result ℕ Refusal) → Speaks size l r → Speaks size l r' → r ≡ r'
speaks_only size l r r' p q =
    gives_apart centimetres_given centimetres_apart r r' (answered_once _ (λ k l. k) (λ d e. (same_distance size l _ _ d e, tt)) p q).0

pub distance_only : (κs : _) (a : _) (r r' : _) (x x' : _) → distance-reads.Post κs a r x → distance-reads.Post κs a r' x' → r ≡ r'
distance_only κs a r r' x x' p q = speaks_only _ _ r r' p q
