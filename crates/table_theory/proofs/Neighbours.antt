-- A table in which each cell is what its neighbours make it is the table of shortest lengths, and the other way round,
-- over any set of permitted steps and any set of goal cells. One way: no way is shorter than its first cell's entry, by
-- induction on the way (`below`), and an entry is the length of a way, by induction on its steps, which fall by exactly
-- one (`found`). The other way: over a step, shortest lengths are a step apart.
use mathlib.Core.Path.{◌≡◌, refl, ap, sym, subst, ◌∙◌}
use Prim.Native.Nat.{ℕ, zero, suc, ◌≤◌, ◌<◌}
use native.Mathlib.Omega.{arith}
use native.Mathlib.Nat.{le_refl}
use Rattle.lengths.specs.declared.Length.{Length}
use Rattle.lengths.specs.Order.{zero_length, ◌⊕◌, steps, ◌⊑◌}
use Rattle.lengths.proofs.Order.{⊑_refl, ⊑_trans, ⊑_antisym, ⊕_mono, zero_least}
use Rattle.steps.specs.Way.{Graph, Way, stay, step, Reach}
use Rattle.table_theory.specs.Entry.{Entry, mark, long}
use Rattle.table_theory.specs.Filled.{Says}
use Rattle.table_theory.specs.Made.{Least, Made}

pub no_mark : {l : Length} → long l ≡ mark → ⊥
no_mark p = let z : ◌≡◌ {A = ℕ} 0 1 = cc in omega arith

pub long_inj : {l m : Length} → long l ≡ long m → l ≡ m
long_inj p = cc

module _ (G : Graph) (Goal : ℕ → Type 0) (goal? : (x : ℕ) → Dec (Goal x)) (T : ℕ → Entry) where
  module _ (rule : (x : ℕ) → Made G Goal T x (T x)) where
    -- no way is shorter than the entry
    below : {x g : ℕ} {l : Length} → Goal g → Way G x g l → (m : Length) × (T x ≡ long m) × (m ⊑ l)
    below {x} gg stay = (zero_length, (rule x).at_goal gg, ⊑_refl zero_length)
    below {x} gg (step {h = h} {y = y} {l = l} s w) = on (goal? x) (below gg w)
      where
        by : (m : Length) → T y ≡ long m → m ⊑ l → (e : Entry) → T x ≡ e → Least G T x e → (m : Length) × (T x ≡ long m) × (m ⊑ l ⊕ G.weight h)
        by m p q mark r k = absurd (no_mark (sym p ∙ k h y s))
        by m p q (long n) r k = (n, r, ⊑_trans (k.1 h y m s p) (⊕_mono (G.weight h) q))

        on : Dec (Goal x) → ((m : Length) × (T y ≡ long m) × (m ⊑ l)) → (m : Length) × (T x ≡ long m) × (m ⊑ l ⊕ G.weight h)
        on (yes a) r = (zero_length, (rule x).at_goal a, zero_least (l ⊕ G.weight h))
        on (no a) r = by r.0 r.1 r.2 (T x) refl ((rule x).elsewhere a)

    -- an entry is the length of a way, if the entries of fewer steps are
    found_step : (x : ℕ) (l : Length) → T x ≡ long l → ((y : ℕ) (m : Length) → T y ≡ long m → steps m < steps l → Reach G Goal y m) → Reach G Goal x l
    found_step x l p ih = on (goal? x)
      where
        by : Least G T x (long l) → Reach G Goal x l
        by k =
            let ((h, y, m, s, q, e), _) = k in
            let (g, gg, w) = ih y m q (omega (arith, G.one h, ap steps e)) in
            (g, gg, subst (λ (n : Length). Way G x g n) (sym e) (step s w))

        on : Dec (Goal x) → Reach G Goal x l
        on (yes a) = (x, a, subst (λ (n : Length). Way G x x n) (long_inj (sym ((rule x).at_goal a) ∙ p)) stay)
        on (no a) = by (subst (λ (e : Entry). Least G T x e) p ((rule x).elsewhere a))

    found : (n x : ℕ) (l : Length) → T x ≡ long l → steps l ≤ n → Reach G Goal x l
    found zero x l p h = found_step x l p (λ y m q k. absurd (omega arith))
    found (suc n) x l p h = found_step x l p (λ y m q k. found n y m q (omega arith))

    pub sound : (x : ℕ) → Says G Goal x (T x)
    sound x = by (T x) refl
      where
        by : (e : Entry) → T x ≡ e → Says G Goal x e
        by mark p = λ l r. let b = below r.1 r.2 in no_mark (sym b.1 ∙ p)
        by (long l) p = record {
          way = found (steps l) x l p (le_refl (steps l));
          least = λ m r. let b = below r.1 r.2 in subst
              (λ (k : Length). k ⊑ m) (long_inj (sym b.1 ∙ p)) b.2;
        }

  -- the other way round
  module _ (right : (x : ℕ) → Says G Goal x (T x)) where
    says : {x : ℕ} {e : Entry} → T x ≡ e → Says G Goal x e
    says {x} p = subst (λ (e : Entry). Says G Goal x e) p (right x)

    goal_zero : (x : ℕ) → Goal x → (e : Entry) → T x ≡ e → e ≡ long zero_length
    goal_zero x a mark p = absurd (says p zero_length (x, a, stay))
    goal_zero x a (long l) p = ap long (⊑_antisym ((says p).least zero_length (x, a, stay)) (zero_least l))

    -- over a step, the entries are a step apart or the mark
    over_step : {h x y : ℕ} → G.Step h x y → {l m : Length} → T x ≡ long l → T y ≡ long m → l ⊑ m ⊕ G.weight h
    over_step s p q = let (g, gg, w) = (says q).way in (says p).least _ (g, gg, step s w)

    least_mark : (x : ℕ) → T x ≡ mark → Least G T x mark
    least_mark x p h y s = by (T y) refl
      where
        by : (e : Entry) → T y ≡ e → T y ≡ mark
        by mark q = q
        by (long m) q = let (g, gg, w) = (says q).way in absurd (says p _ (g, gg, step s w))

    least_len : (x : ℕ) (l : Length) → T x ≡ long l → ¬ Goal x → Least G T x (long l)
    least_len x l p a = (some, λ h y m s q. over_step s p q)
      where
        from : {g : ℕ} {n : Length} → Goal g → Way G x g n → n ⊑ l → (h : ℕ) × (y : ℕ) × (m : Length) × G.Step h x y × (T y ≡ long m) × (l ≡ m ⊕ G.weight h)
        from gg stay k = absurd (a gg)
        from {g} gg (step {h = h} {y = y} {l = n} s w) k = by (T y) refl
          where
            by : (e : Entry) → T y ≡ e → (h : ℕ) × (y : ℕ) × (m : Length) × G.Step h x y × (T y ≡ long m) × (l ≡ m ⊕ G.weight h)
            by mark q = absurd (says q n (g, gg, w))
            by (long m) q = (h, y, m, s, q, ⊑_antisym (over_step s p q) (⊑_trans (⊕_mono (G.weight h) ((says q).least n (g, gg, w))) k))

        some : (h : ℕ) × (y : ℕ) × (m : Length) × G.Step h x y × (T y ≡ long m) × (l ≡ m ⊕ G.weight h)
        some = let (g, gg, w) = (says p).way in from gg w (⊑_refl l)

    pub complete : (x : ℕ) → Made G Goal T x (T x)
    complete x = record { at_goal = λ a. goal_zero x a (T x) refl; elsewhere = λ a. by (T x) refl a }
      where
        by : (e : Entry) → T x ≡ e → ¬ Goal x → Least G T x e
        by mark p a = least_mark x p
        by (long l) p a = least_len x l p a
