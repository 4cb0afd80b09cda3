-- One record of the chain: what reading it answers, where the rest of the bytes begins with it and where it does not.
use mathlib.Core.Path.{◌≡◌, refl, sym, ◌∙◌, ap, ap₂, subst⁻¹}
use mathlib.Core.Bool.{Bool, true, false}
use mathlib.Core.List.{List, ◌++◌}
use Prim.Native.Nat.{ℕ, ◌+◌, ◌-◌, ◌≤◌}
use native.Mathlib.Omega.{arith}
use lib.ListN.{length, take, drop, length-append, length-drop, take-append-drop}
use lib.Seq.{drop-drop, drop_at, length-take-le}
use lib.Dec.{leb, eqb}
use borrow.Author.Tests.{leb-true, leb-false, eqb-true, eqb-false}
use Rattle.std.specs.Prelude.{Option, Some, None}
use Rattle.answers.specs.Bools.{pick}
use Rattle.plan.specs.declared.Content.{Content}
use Rattle.plan.specs.Records.{number, record_of, length_in, kind_in}
use Rattle.plan.specs.Break.{Wrong, Fixed, Any}
use Rattle.plan.specs.Break.Wrong.{cut_off, wrong_kind, wrong_length}
use Rattle.plan.specs.inner.Steps.{content_at, record_in, record_at, of_fixed_length, fixed_record_at}
use Rattle.plan.proofs.Numbers.{Bytes, bytes_drop, number_read, number_written}

-- a rest that begins with a record states its length and its kind, and goes on behind it
pub record Begins (rest : List ℕ) (kind : ℕ) (content after : List ℕ) : Type 0 where
  pub length_stated : length_in rest ≡ length content
  pub kind_stated : kind_in rest ≡ kind
  pub long_enough : length rest ≡ 4 + length content + length after
  pub goes_on : drop (4 + length content) rest ≡ after

pub begins : (rest : List ℕ) (kind : ℕ) (content after : List ℕ) → rest ≡ record_of kind content ++ after → Begins rest kind content after
begins rest kind content after e =
    record {
      length_stated = ap (λ (l : List ℕ). length_in l) e ∙ number_read (length content) _;
      kind_stated = ap (λ (l : List ℕ). kind_in l) e ∙ number_read kind _;
      long_enough = ap length e ∙ (length-append (record_of kind content) after ∙ omega arith);
      goes_on = ap (drop (4 + length content)) e ∙ drop_at (record_of kind content) after (4 + length content) (omega arith);
    }

-- a rest that is long enough for the record that it states begins with it
pub record_whole : (rest : List ℕ) → Bytes rest → 4 + length_in rest ≤ length rest
    → rest ≡ record_of (kind_in rest) (take (length_in rest) (drop 4 rest)) ++ drop (4 + length_in rest) rest
record_whole rest b h =
    let n = length_in rest in
    let k = kind_in rest in
    let long : length (drop 4 rest) ≡ length rest - 4 = length-drop 4 rest in
    let long2 : length (drop 2 rest) ≡ length rest - 2 = length-drop 2 rest in
    let size : length (take n (drop 4 rest)) ≡ n = length-take-le n (drop 4 rest) (omega arith) in
    let joined : take n (drop 4 rest) ++ drop (4 + n) rest ≡ drop 4 rest =
    ap (λ (l : List ℕ). take n (drop 4 rest) ++ l) (sym (drop-drop n 4 rest)) ∙ take-append-drop n (drop 4 rest) in
    let second : drop 2 rest ≡ number k ++ drop 4 rest =
    number_written (drop 2 rest) (omega arith) (bytes_drop 2 rest b 0) ∙ ap (λ (l : List ℕ). number k ++ l) (drop-drop 2 2 rest) in
    number_written rest (omega arith) (b 0)
    ∙ (ap (λ (l : List ℕ). number n ++ l) second
    ∙ sym (ap₂ (λ (m : ℕ) (l : List ℕ). number m ++ (number k ++ l)) size joined))

-- what an answer shows of the rest: the record that it states is whole and as it should be, or something is wrong with it
pub data Met (rest : List ℕ) (at kind : ℕ) (Takes : ℕ → Type 0) : Option Content → Type 0 where
  whole : 4 + length_in rest ≤ length rest → kind_in rest ≡ kind → Takes (length_in rest) → Met rest at kind Takes (Some (content_at at (length_in rest)))
  wrong : Wrong kind Takes rest → Met rest at kind Takes None

-- a record that is whole, of its kind and of a length that the kind takes is not wrong
not_wrong : {kind : ℕ} {Takes : ℕ → Type 0} (rest : List ℕ) → 4 + length_in rest ≤ length rest → kind_in rest ≡ kind → Takes (length_in rest)
    → Wrong kind Takes rest → ⊥
not_wrong rest h k t (cut_off c) = omega arith
not_wrong rest h k t (wrong_kind c) = c k
not_wrong rest h k t (wrong_length c) = c t

-- a record that begins the rest is the one that is read, and where something is wrong with it none is
module _ (rest : List ℕ) (at kind : ℕ) (Takes : ℕ → Type 0) where
  pub whole_read : 4 + length_in rest ≤ length rest → kind_in rest ≡ kind → Takes (length_in rest) → (r : Option Content) → Met rest at kind Takes r
      → r ≡ Some (content_at at (length_in rest))
  whole_read h k t r (whole h' k' t') = refl
  whole_read h k t r (wrong w) = absurd (not_wrong rest h k t w)

  pub right_read : (content after : List ℕ) → rest ≡ record_of kind content ++ after → Takes (length content)
      → (r : Option Content) → Met rest at kind Takes r → r ≡ Some (content_at at (length content))
  right_read content after e t r f =
      let b = begins rest kind content after e in
      whole_read (omega arith) b.kind_stated (subst⁻¹ Takes b.length_stated t) r f ∙ ap (λ (n : ℕ). Some (content_at at n)) b.length_stated

  pub wrong_read : Wrong kind Takes rest → (r : Option Content) → Met rest at kind Takes r → r ≡ None
  wrong_read w r (whole h k t) = absurd (not_wrong rest h k t w)
  wrong_read w r (wrong w') = refl

-- the answer goes by the two tests on what the rest states
found_in : (rest : List ℕ) (at kind : ℕ) → Met rest at kind Any (record_in rest at kind)
unfolding record_in
found_in rest at kind = go (leb (4 + length_in rest) (length rest)) refl (eqb (kind_in rest) kind) refl
  where
    go : (b : Bool) → leb (4 + length_in rest) (length rest) ≡ b → (k : Bool) → eqb (kind_in rest) kind ≡ k
        → Met rest at kind Any (pick b (pick k (Some (content_at at (length_in rest))) None) None)
    go true e true f = whole (leb-true _ _ e) (eqb-true _ _ f) tt
    go true e false f = wrong (wrong_kind (eqb-false _ _ f))
    go false e true f = wrong (cut_off (leb-false _ _ e))
    go false e false f = wrong (cut_off (leb-false _ _ e))

-- and, for a fixed length, by one more
of_length : (rest : List ℕ) (at kind n : ℕ) (r : Option Content) → Met rest at kind Any r → Met rest at kind (Fixed n) (of_fixed_length n r)
unfolding of_fixed_length
of_length rest at kind n r (whole h k t) = go (eqb (length_in rest) n) refl
  where
    go : (b : Bool) → eqb (length_in rest) n ≡ b → Met rest at kind (Fixed n) (pick b (Some (content_at at (length_in rest))) None)
    go true e = whole h k (eqb-true _ _ e)
    go false e = wrong (wrong_length (eqb-false _ _ e))
of_length rest at kind n r (wrong (cut_off h)) = wrong (cut_off h)
of_length rest at kind n r (wrong (wrong_kind h)) = wrong (wrong_kind h)
of_length rest at kind n r (wrong (wrong_length h)) = absurd (h tt)

module _ (bytes : List ℕ) (at kind : ℕ) where
  -- so it does at an offset
  pub found_at : Met (drop at bytes) at kind Any (record_at bytes at kind)
  unfolding record_at
  found_at = found_in (drop at bytes) at kind

  pub found_fixed_at : (n : ℕ) → Met (drop at bytes) at kind (Fixed n) (fixed_record_at bytes at kind n)
  unfolding fixed_record_at
  found_fixed_at n = of_length (drop at bytes) at kind n (record_at bytes at kind) found_at

  -- behind a record the bytes go on
  pub next_rest : (content after : List ℕ) → drop at bytes ≡ record_of kind content ++ after → drop (at + 4 + length content) bytes ≡ after
  next_rest content after e =
      let same : at + 4 + length content ≡ at + (4 + length content) = omega arith in
      rw same (sym (drop-drop (4 + length content) at bytes) ∙ (begins (drop at bytes) kind content after e).goes_on)
