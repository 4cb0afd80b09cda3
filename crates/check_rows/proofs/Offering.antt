-- What a heading offers a cell, as a number: the key of the neighbour's entry plus the step, and no less than the mark
-- where the step is not permitted or the neighbour is left out. So the least number is the key of the least entry.
use mathlib.Core.Path.{◌≡◌, refl, ap, sym, subst, ◌∙◌}
use mathlib.Core.Logic.{◌⊎◌, inl, inr}
use mathlib.Core.Bool.{Bool, true, false}
use mathlib.Core.List.{List}
use Prim.Native.Nat.{ℕ, zero, suc, ◌+◌, ◌%◌, min}
use native.Mathlib.Omega.{arith}
use lib.ListN.{get_or}
use Rattle.std.specs.Prelude.{Option, Some, None}
use Rattle.answers.specs.Bools.{pick, both}
use Rattle.lengths.specs.declared.Length.{Length}
use Rattle.lengths.specs.Order.{steps}
use Rattle.lengths.specs.inner.Keys.{key}
use Rattle.steps.specs.Heading.{weight}
use Rattle.steps.specs.Step.{one_step}
use Rattle.table_theory.specs.Entry.{Entry, read, entry_at}
use Rattle.table_theory.specs.inner.Best.{further, offer, lesser, best}
use Rattle.table_theory.proofs.Best.{lesser_is}
use Rattle.check_rows.specs.inner.Level.{none, key_of, open_number}
use Rattle.check_rows.specs.inner.Window.{shut_of}
use Rattle.check_rows.proofs.CellNumbers.{EntryKind, the_mark, bad, good, kind, ByWall, NumberPlaced, SmallEntry, key_low, key_lesser}

-- a neighbour's entry plus a step
further_key : (v : ℕ) (s : Length) → steps s ≡ 1 → min none (open_number v + key s) ≡ key_of (further (read v) s)
further_key v s one = by (kind v)
  where
    by : EntryKind v → min none (open_number v + key s) ≡ key_of (further (read v) s)
    by (the_mark e r n) = rw r (omega arith)
    by (bad e r n) = rw r (omega arith)
    by (good e w r n) = rw r (omega arith)

further_small : (v : ℕ) (s : Length) → steps s ≡ 1 → SmallEntry (further (read v) s)
further_small v s one = by (kind v)
  where
    by : EntryKind v → SmallEntry (further (read v) s)
    by (the_mark e r n) = rw r tt
    by (bad e r n) = rw r tt
    by (good e w r n) = rw r (omega arith, omega arith)

-- a step, with the cell that it leads to and the two beside it
pub offer_key :
    (T : ℕ → Entry) (s : Length) → steps s ≡ 1 → (to side other : Bool) (y v n a b : ℕ) → T y ≡ read v → NumberPlaced to v n → ByWall side a → ByWall other b
    → min none (n + key s + shut_of a + shut_of b) ≡ key_of (offer T s (pick (both to (both side other)) (Some y) None))
offer_key T s one false side other y v n a b e p q r = omega (arith, p.stands.above refl)
offer_key T s one true false other y v n a b e p q r = omega (arith, q.above refl)
offer_key T s one true true false y v n a b e p q r = omega (arith, r.above refl)
offer_key T s one true true true y v n a b e p q r =
    let f : min none (n + key s + shut_of a + shut_of b) ≡ min none (open_number v + key s) = omega (arith, p.same refl, q.below refl, r.below refl) in
    f ∙ further_key v s one ∙ ap (λ (z : Entry). key_of (further z s)) (sym e)

offer_small : (t : List ℕ) (s : Length) → steps s ≡ 1 → (l : Option ℕ) → SmallEntry (offer (entry_at t) s l)
offer_small t s one None = tt
offer_small t s one (Some y) = further_small (get_or t y 4294967295) s one

module _ (lead : ℕ → ℕ → Option ℕ) (t : List ℕ) (x : ℕ) where
  pub best_small : (k : ℕ) → SmallEntry (best lead (entry_at t) x k)
  best_small zero = tt
  best_small (suc k) = by (lesser_is (best lead (entry_at t) x k) here).2 (best_small k)
    where
      here : Entry
      here = offer (entry_at t) (weight k) (lead k x)

      by : (lesser (best lead (entry_at t) x k) here ≡ best lead (entry_at t) x k) ⊎ (lesser (best lead (entry_at t) x k) here ≡ here)
          → SmallEntry (best lead (entry_at t) x k) → SmallEntry (lesser (best lead (entry_at t) x k) here)
      by (inl e) s = subst SmallEntry (sym e) s
      by (inr e) s = subst SmallEntry (sym e) (offer_small t (weight k) (one_step (k % 2)) (lead k x))

  -- one heading more: the least number stays the key of the least entry
  pub best_more : (k a b : ℕ) → a ≡ key_of (best lead (entry_at t) x k) → min none b ≡ key_of (offer (entry_at t) (weight k) (lead k x))
      → min a b ≡ key_of (best lead (entry_at t) x (suc k))
  best_more k a b e f =
      let s = best_small k in
      let u = offer_small t (weight k) (one_step (k % 2)) (lead k x) in
      let g : min a b ≡ min (key_of (best lead (entry_at t) x k)) (key_of (offer (entry_at t) (weight k) (lead k x))) = omega
      (arith, key_low (best lead (entry_at t) x k) s) in
      g ∙ sym (key_lesser (best lead (entry_at t) x k) (offer (entry_at t) (weight k) (lead k x)) s u)
