-- What each way out of the functions that read one record shows: one law for each, over the definitions alone.
use mathlib.Core.Path.{◌≡◌, refl, sym, ◌∙◌, ap}
use mathlib.Core.List.{List}
use Prim.Native.Nat.{ℕ, ◌+◌, ◌-◌, ◌<◌, ◌≤◌}
use native.Mathlib.Omega.{arith}
use lib.ListN.{length, drop, length-drop}
use lib.Seq.{drop-drop}
use borrow.Author.Tests.{eq-eqb, ne_eqb}
use Rattle.std.specs.Prelude.{Option, Some, None, Err}
use Rattle.answers.specs.declared.Refusal.{Refusal}
use Rattle.answers.specs.declared.Refusal.TheVariants.{PlanBroken}
use Rattle.plan.specs.declared.Content.{Content}
use Rattle.plan.specs.Records.{number_in, kind_in}
use Rattle.plan.specs.Break.{Wrong, Any}
use Rattle.plan.specs.Break.Wrong.{cut_off, wrong_kind}
use Rattle.plan.specs.inner.Steps.{content_at, or_broken, record_at, of_fixed_length, fixed_record_at}
use Rattle.plan.proofs.Chain.{whole_read, wrong_read, found_at}

-- what a refusal shows of the record that was asked for
pub not_there : {at : ℕ} {o : Option Content} {f : Refusal} → Err f ≡ or_broken at o → (o ≡ None) × (PlanBroken at ≡ f)
not_there {o = Some y} h = cc
not_there {o = None} h = (refl, cc)

module _ (bytes : List ℕ) (at kind : ℕ) where
  not_read : Wrong kind Any (drop at bytes) → None ≡ record_at bytes at kind
  not_read w = sym (wrong_read (drop at bytes) at kind Any w _ (found_at bytes at kind))

  kind_there : (k : ℕ) → k ≡ number_in (drop (at + 2) bytes) → kind_in (drop at bytes) ≡ k
  kind_there k e = ap number_in (drop-drop 2 at bytes) ∙ sym e

  pub header_cut : length bytes - at < 4 → None ≡ record_at bytes at kind
  header_cut h = not_read (cut_off (omega (arith, length-drop at bytes)))

  module _ (n : ℕ) (stated : n ≡ number_in (drop at bytes)) where
    pub content_cut : length bytes - at - 4 < n → None ≡ record_at bytes at kind
    content_cut h = not_read (cut_off (omega (arith, length-drop at bytes)))

    pub other_kind : (k : ℕ) → k ≡ number_in (drop (at + 2) bytes) → (k ≡ kind → ⊥) → None ≡ record_at bytes at kind
    other_kind k e h = not_read (wrong_kind (λ f. h (sym (kind_there k e) ∙ f)))

    pub read_here : (k : ℕ) → k ≡ number_in (drop (at + 2) bytes) → k ≡ kind → 4 ≤ length bytes - at → n ≤ length bytes - at - 4
        → Some (content_at at n) ≡ record_at bytes at kind
    read_here k e f h l =
        ap (λ (m : ℕ). Some (content_at at m)) stated
        ∙ sym (whole_read (drop at bytes) at kind Any (omega (arith, length-drop at bytes)) (kind_there k e ∙ f) tt _ (found_at bytes at kind))

module _ (bytes : List ℕ) (at kind n : ℕ) where
  pub fixed_not_read : None ≡ record_at bytes at kind → None ≡ fixed_record_at bytes at kind n
  unfolding of_fixed_length fixed_record_at
  fixed_not_read h = rw (sym h) refl

  module _ (content : Content) (read : Some content ≡ record_at bytes at kind) where
    pub other_length : (content.len ≡ n → ⊥) → None ≡ fixed_record_at bytes at kind n
    unfolding of_fixed_length fixed_record_at
    other_length h = rw (sym read) (simp (ne_eqb _ _ h))

    pub fixed_read : content.len ≡ n → Some content ≡ fixed_record_at bytes at kind n
    unfolding of_fixed_length fixed_record_at
    fixed_read h = rw (sym read) (simp (eq-eqb _ _ h))
