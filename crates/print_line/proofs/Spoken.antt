-- The distance spoken is not refused where the parts of the length and the cell size are within their limits.
use mathlib.Core.Path.{◌≡◌, refl, ap, subst, sym, ◌∙◌}
use mathlib.Core.Bool.{false}
use mathlib.Core.List.{[], ◌∷◌}
use Prim.Native.Nat.{ℕ}
use Rattle.std.specs.Prelude.{Result, Ok, Err, IsOk}
use Rattle.answers.specs.declared.Refusal.{Refusal}
use Rattle.answers.specs.declared.Refusal.TheVariants.{LengthAbove, SizeOutside}
use Rattle.answers.specs.Refusing.{done, first_refusal, gives}
use Rattle.answers.proofs.Refusals.{never, passed_all, refuse_passes}
use Rattle.lengths.specs.declared.Length.{Length}
use Rattle.lengths.specs.Distance.{Spoken}
use Rattle.lengths.specs.inner.AtMost.{Within}
use Rattle.lengths.specs.Answers.{way_part, size_outside, distance_tests, centimetres_given, Speaks}
use Rattle.lengths.proofs.Tested.{parts_small}

same_centimetres : {n k : ℕ} → done (n ∷ []) ≡ done (k ∷ []) → k ≡ n
same_centimetres e = cc

module _ (size : ℕ) (l : Length) (sized : size_outside size ≡ false) (within : Within l) (r : Result ℕ Refusal) (said : Speaks size l r) where
  none : first_refusal (distance_tests size l) ≡ Ok tt
  none =
      passed_all (distance_tests size l)
      (sym (refuse_passes LengthAbove _ (parts_small way_part l within)), (sym (refuse_passes SizeOutside _ sized), tt))

  pub spoken_is : (n : ℕ) → r ≡ Ok n → Spoken size l n
  spoken_is n e =
      let (k, f, s) = said.does none in
      subst (Spoken size l) (same_centimetres (sym (ap (gives centimetres_given) e) ∙ f)) s

  pub never_silent : (f : Refusal) → r ≡ Err f → ⊥
  never_silent f e =
      let (k, g, s) = said.does none in
      never (sym g ∙ ap (gives centimetres_given) e)

  pub heard : IsOk r
  heard = by r refl
    where
      by : (s : Result ℕ Refusal) → r ≡ s → IsOk s
      by (Ok n) e = refl
      by (Err f) e = absurd (never_silent f e)
