-- What the neighbours make a cell, computed: the least of the headings' offers.
use mathlib.Core.Path.{◌≡◌, refl, ap, sym, subst, ◌∙◌}
use mathlib.Core.Logic.{◌⊎◌, inl, inr}
use mathlib.Core.Bool.{Bool, true, false, not}
use lib.Dec.{T as Holds}
use Prim.Native.Nat.{ℕ, zero, suc, ◌%◌, ◌<◌}
use native.Mathlib.Omega.{arith}
use native.Mathlib.Decide.{ℕ_discrete}
use Rattle.answers.specs.Bools.{pick}
use Rattle.lengths.specs.declared.Length.{Length}
use Rattle.lengths.specs.Order.{zero_length, ◌⊕◌, ◌⊑◌, shorter}
use Rattle.lengths.proofs.Order.{◌⊏◌, ⊑_refl, ⊑_trans, ⊏-⊑, ⊑_antisym, shorter_yes, shorter_no}
use Rattle.std.specs.Prelude.{Option, Some, None}
use Rattle.steps.specs.Heading.{weight}
use Rattle.steps.specs.Step.{one_step}
use Rattle.steps.specs.Way.{Graph}
use Rattle.table_theory.specs.Entry.{Entry, mark, long}
use Rattle.table_theory.specs.Made.{Least, Made}
use Rattle.table_theory.specs.inner.Best.{further, offer, lesser, best, made}
use Rattle.table_theory.proofs.Neighbours.{no_mark, long_inj}

-- the steps of k headings
abbrev pub graph : ℕ → (ℕ → ℕ → Option ℕ) → Graph
graph k lead = record { Step = λ h x y. (h < k) × (lead h x ≡ Some y); weight = weight; one = λ h. one_step (h % 2) }

-- the mark is above every length
abbrev pub NotAbove : Entry → Entry → Type 0
NotAbove e mark = Unit {0}
NotAbove mark (long b) = ⊥
NotAbove (long a) (long b) = a ⊑ b

at_most_refl : (e : Entry) → NotAbove e e
at_most_refl mark = tt
at_most_refl (long a) = ⊑_refl a

pub at_most_trans : (e f g : Entry) → NotAbove e f → NotAbove f g → NotAbove e g
at_most_trans e f mark p q = tt
at_most_trans e mark (long c) p q = absurd q
at_most_trans mark (long b) (long c) p q = absurd p
at_most_trans (long a) (long b) (long c) p q = ⊑_trans p q

abbrev pub IsLesser : Entry → Entry → Entry → Type 0
IsLesser e f r = NotAbove r e × NotAbove r f × ((r ≡ e) ⊎ (r ≡ f))

picked : (t : Bool) (a b : Length) → (Holds t → b ⊏ a) → (Holds (not t) → a ⊑ b) → IsLesser (long a) (long b) (pick t (long b) (long a))
picked true a b p q = (⊏-⊑ (p tt), ⊑_refl b, inr refl)
picked false a b p q = (⊑_refl a, q tt, inl refl)

pub lesser_is : (e f : Entry) → IsLesser e f (lesser e f)
lesser_is mark f = (tt, at_most_refl f, inr refl)
lesser_is (long a) mark = (⊑_refl a, tt, inl refl)
lesser_is (long a) (long b) = picked (shorter b a) a b (shorter_yes b a) (shorter_no b a)

module _ (lead : ℕ → ℕ → Option ℕ) (T : ℕ → Entry) (x : ℕ) where
  abbrev pub offered : ℕ → Entry
  offered h = offer T (weight h) (lead h x)

  pub best_least : (k h : ℕ) → h < k → NotAbove (best lead T x k) (offered h)
  best_least zero h b = absurd (omega arith)
  best_least (suc k) h b = by (ℕ_discrete h k) (λ c. best_least k h c)
    where
      l : IsLesser (best lead T x k) (offered k) (best lead T x (suc k))
      l = lesser_is (best lead T x k) (offered k)

      by : Dec (h ≡ k) → (h < k → NotAbove (best lead T x k) (offered h)) → NotAbove (best lead T x (suc k)) (offered h)
      by (yes e) ih = subst (λ (z : ℕ). NotAbove (best lead T x (suc k)) (offered z)) (sym e) l.1
      by (no e) ih = at_most_trans (best lead T x (suc k)) (best lead T x k) (offered h) l.0 (ih (omega arith))

  pub best_some : (k : ℕ) → (best lead T x k ≡ mark) ⊎ ((h : ℕ) × (h < k) × (best lead T x k ≡ offered h))
  best_some zero = inl refl
  best_some (suc k) = by (lesser_is (best lead T x k) (offered k)).2 (best_some k)
    where
      e : Entry
      e = best lead T x (suc k)

      by : (e ≡ best lead T x k) ⊎ (e ≡ offered k) → (best lead T x k ≡ mark) ⊎ ((h : ℕ) × (h < k) × (best lead T x k ≡ offered h))
          → (e ≡ mark) ⊎ ((h : ℕ) × (h < suc k) × (e ≡ offered h))
      by (inr p) q = inr (k, omega arith, p)
      by (inl p) (inl q) = inl (p ∙ q)
      by (inl p) (inr r) = inr (r.0, omega arith, p ∙ r.2)

  -- an offer that is a length
  pub taken : (h : ℕ) (m : Option ℕ) (l : Length) → long l ≡ offer T (weight h) m → (y : ℕ) × (n : Length) × (m ≡ Some y) × (T y ≡ long n) × (l ≡ n ⊕ weight h)
  taken h None l p = absurd (no_mark p)
  taken h (Some y) l p = by (T y) refl p
    where
      by : (e : Entry) → T y ≡ e → long l ≡ further e (weight h) → (z : ℕ) × (n : Length) × (Some y ≡ Some z) × (T z ≡ long n) × (l ≡ n ⊕ weight h)
      by mark q r = absurd (no_mark r)
      by (long n) q r = (y, n, refl, q, long_inj r)

  best_mark : (k : ℕ) → best lead T x k ≡ mark → Least (graph k lead) T x mark
  best_mark k p h y s = by (T y) refl (subst (λ (m : Option ℕ). NotAbove mark (offer T (weight h) m)) s.1
      (subst (λ (e : Entry). NotAbove e (offered h)) p (best_least k h s.0)))
    where
      by : (e : Entry) → T y ≡ e → NotAbove mark (further (T y) (weight h)) → T y ≡ mark
      by mark q r = q
      by (long n) q r = absurd (subst (λ (e : Entry). NotAbove mark (further e (weight h))) q r)

  best_len : (k : ℕ) (l : Length) → best lead T x k ≡ long l → Least (graph k lead) T x (long l)
  best_len k l p = (some (best_some k), all)
    where
      some : (best lead T x k ≡ mark) ⊎ ((h : ℕ) × (h < k) × (best lead T x k ≡ offered h))
          → (h : ℕ) × (y : ℕ) × (n : Length) × ((h < k) × (lead h x ≡ Some y)) × (T y ≡ long n) × (l ≡ n ⊕ weight h)
      some (inl q) = absurd (no_mark (sym p ∙ q))
      some (inr r) =
          let (h, b, q) = r in
          let (y, n, a, c, e) = taken h (lead h x) l (sym p ∙ q) in (h, y, n, (b, a), c, e)

      all : (h y : ℕ) (m : Length) → (h < k) × (lead h x ≡ Some y) → T y ≡ long m → l ⊑ m ⊕ weight h
      all h y m s q =
          subst (λ (e : Entry). NotAbove (long l) (further e (weight h))) q
          (subst (λ (v : Option ℕ). NotAbove (long l) (offer T (weight h) v)) s.1
          (subst (λ (e : Entry). NotAbove e (offered h)) p (best_least k h s.0)))

  pub best_is : (k : ℕ) (e : Entry) → best lead T x k ≡ e → Least (graph k lead) T x e
  best_is k mark p = best_mark k p
  best_is k (long l) p = best_len k l p

pub made_is : (lead : ℕ → ℕ → Option ℕ) (goal : ℕ → Bool) (T : ℕ → Entry) (k x : ℕ) → Made (graph k lead) (λ z. Holds (goal z)) T x (made lead goal T k x)
made_is lead goal T k x = by (goal x) refl
  where
    by : (t : Bool) → goal x ≡ t → Made (graph k lead) (λ z. Holds (goal z)) T x (pick t (long zero_length) (best lead T x k))
    by true p = record { at_goal = λ g. refl; elsewhere = λ a. absurd (a (subst Holds (sym p) tt)) }
    by false p = record { at_goal = λ g. absurd (subst Holds p g); elsewhere = λ a. best_is lead T x k (best lead T x k) refl }

-- there is only one
pub made_unique : {G : Graph} {Goal : ℕ → Type 0} {T : ℕ → Entry} {x : ℕ} {e f : Entry} → Dec (Goal x) → Made G Goal T x e → Made G Goal T x f → e ≡ f
made_unique (yes g) a b = a.at_goal g ∙ sym (b.at_goal g)
made_unique {G} {T = T} {x} {e} {f} (no g) a b = by e f (a.elsewhere g) (b.elsewhere g)
  where
    by : (e f : Entry) → Least G T x e → Least G T x f → e ≡ f
    by mark mark p q = refl
    by mark (long l) p q = let (h, y, m, s, r, c) = q.0 in absurd (no_mark (sym r ∙ p h y s))
    by (long l) mark p q = let (h, y, m, s, r, c) = p.0 in absurd (no_mark (sym r ∙ q h y s))
    by (long a) (long b) p q = ap long (⊑_antisym (half a b p q) (half b a q p))
      where
        half : (a b : Length) → Least G T x (long a) → Least G T x (long b) → a ⊑ b
        half a b p q = let (h, y, m, s, r, c) = q.0 in subst (λ (z : Length). a ⊑ z) (sym c) (p.1 h y m s r)
