-- Whether a cell is right, computed by the neighbour rule; so a table's verdict is computed, and a table that is right
-- everywhere is the filled one.
use mathlib.Core.Path.{◌≡◌, refl, sym, ◌∙◌, ap}
use mathlib.Core.Bool.{Bool, true, false, not, true≢false}
use mathlib.Core.List.{List, []}
use Prim.Native.Nat.{ℕ, ◌<◌}
use native.Mathlib.Decide.{ℕ_discrete}
use native.Mathlib.Omega.{arith}
use borrow.Author.Tests.{eqb-true, eq-eqb, ltb-true, not-true}
use lib.Dec.{eqb, ltb}
use lib.ListN.{get_or, length}
use Rattle.std.specs.Prelude.{Ok, Err}
use Rattle.answers.specs.declared.Refusal.TheVariants.{TableWrong}
use Rattle.answers.specs.Numbers.{number_of, place_of}
use Rattle.answers.specs.Refusing.{Tested, done, refused, gives, no_values}
use Rattle.answers.specs.Bools.{both, all_below}
use Rattle.answers.proofs.Bools.{both_true, all_at}
use Rattle.answers.proofs.Numbers.{told_apart}
use Rattle.floor.specs.Floor.{Map, cells}
use Rattle.floor.specs.inner.Ready.{SoundFloor}
use Rattle.steps.specs.inner.Leading.{lead_of}
use Rattle.steps.specs.Step.{steps_of}
use Rattle.steps.specs.Way.{Only}
use Rattle.steps.proofs.OnMap.{few_cells, stays_on_floor}
use Rattle.table_theory.specs.Entry.{pack, malformed, entry_at}
use Rattle.table_theory.specs.inner.Best.{made}
use Rattle.table_theory.specs.Filled.{Filled}
use Rattle.table_theory.specs.Made.{Right}
use Rattle.table_theory.proofs.Judging.{right_filled}
use Rattle.check_rows.proofs.Deciding.{floor_only, floor_made, tells_only}
use Rattle.table.specs.Answers.{Verdict, differs, right}

-- the entry is not malformed, and is what its neighbours make it
abbrev pub right? : Map → ℕ → List ℕ → ℕ → Bool
right? m goal t x =
    both (not (malformed (get_or t x 4294967295))) (eqb (get_or t x 4294967295) (pack (made (lead_of m) (λ z. eqb z goal) (entry_at t) 8 x)))

-- the verdict is the answer
abbrev pub verdict? : (ℕ → Bool) → ℕ → Tested → Bool
verdict? test n (Ok u) = all_below test n
verdict? test n (Err f) = both (eqb (number_of f) 11) (both (ltb (place_of f) n) (both (all_below test (place_of f)) (not (test (place_of f)))))

module _ (m : Map) (goal : ℕ) (t : List ℕ) where
  abbrev RightAt : ℕ → Type 0
  RightAt = Right (steps_of m) (Only goal) t

  is_right : (x : ℕ) → right? m goal t x ≡ true → RightAt x
  is_right x e =
      let (p, q) = both_true (not (malformed (get_or t x 4294967295))) _ e in
      record { formed = not-true _ p; what = _; made = floor_made m (Only goal) (λ z. eqb z goal) (tells_only goal) t x; same = eqb-true _ _ q }

  is_wrong : (x : ℕ) → right? m goal t x ≡ false → ¬ RightAt x
  is_wrong x e r = true≢false (sym passes ∙ e)
    where
      same : get_or t x 4294967295 ≡ pack (made (lead_of m) (λ z. eqb z goal) (entry_at t) 8 x)
      same =
          let made_here = floor_made m (Only goal) (λ z. eqb z goal) (tells_only goal) t x in
          r.same ∙ ap pack (floor_only m (Only goal) (λ z. eqb z goal) (tells_only goal) t x _ made_here r.what r.made)

      passes : right? m goal t x ≡ true
      passes = rw (r.formed, eq-eqb _ _ same)

  all_right : (n : ℕ) → all_below (right? m goal t) n ≡ true → (x : ℕ) → x < n → RightAt x
  all_right n e x h = is_right x (all_at (right? m goal t) n e x h)

  pub verdict : (n : ℕ) (r : Tested) → verdict? (right? m goal t) n r ≡ true → Verdict RightAt n (Unit {0}) (λ g. g ≡ done []) (gives no_values r)
  verdict n (Ok u) e = right (record { within = omega arith; before = all_right n e; wrong = λ h. absurd (omega arith) }) refl
  verdict n (Err f) e =
      let (eleven, d) = both_true (eqb (number_of f) 11) _ e in
      let (p, q) = both_true (ltb (place_of f) n) _ d in
      let (s, u) = both_true (all_below (right? m goal t) (place_of f)) _ q in
      let h = ltb-true (place_of f) n p in
      differs (place_of f) h (record { within = omega arith; before = all_right (place_of f) s; wrong = λ k. is_wrong (place_of f) (not-true _ u) })
      (ap refused (told_apart f (TableWrong (place_of f)) (eqb-true (number_of f) 11 eleven) refl)) tt

  pub filled : SoundFloor m → goal < cells m → length t ≡ cells m → all_below (right? m goal t) (cells m) ≡ true → Filled (steps_of m) (Only goal) (cells m) t
  filled s on size e =
      right_filled (steps_of m) (Only goal) (λ x. ℕ_discrete x goal) (cells m) (few_cells m s) (stays_on_floor m) (λ x g. omega arith) t size (all_right (cells m) e)
