-- No second answer meets the contract of accepting a floor, as the checker reads it.
use mathlib.Core.Path.{◌≡◌, sym, ◌∙◌, ap₂}
use mathlib.Core.List.{List, [], ◌∷◌}
use Prim.Native.Nat.{ℕ}
use Rattle.answers.proofs.Refusals.{answered_once, gives_apart}
use Rattle.floor.specs.declared.Sides.{Sides}
use Rattle.floor.specs.Answers.{sides_given}
use Rattle.floor.proofs.accept.Reads as accept-reads

-- what is given back tells the sides apart
both_same : {a b c d : ℕ} → ◌≡◌ {A = List ℕ} (a ∷ b ∷ []) (c ∷ d ∷ []) → (a ≡ c) × (b ≡ d)
both_same e = (cc, cc)

same_sides : (s t : Sides) → sides_given s ≡ sides_given t → s ≡ t
same_sides s t e = let (w, h) = both_same e in ap₂ (λ (a b : ℕ). record { width = a; height = b }) w h

pub accept_only : (κs : _) (a : _) (r r' : _) (x x' : _) → accept-reads.Post κs a r x → accept-reads.Post κs a r' x' → r ≡ r'
accept_only κs a r r' x x' p q = gives_apart sides_given same_sides r r' (answered_once _ (λ k l. tt {0}) (λ d e. (d ∙ sym e, tt)) p q).0
