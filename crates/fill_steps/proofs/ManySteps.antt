-- Steps out of one cell, one after another: north, and then in each round the straight step after a diagonal one and
-- the diagonal one.
use Rattle.std.proofs.Common.{◌≡◌, ℕ, ◌+◌, ◌-◌, ◌*◌, ◌%◌, ◌<◌, ◌≤◌, ◌≢◌, ◌⊎◌, List, sym, refl, ap, ◌∙◌, subst, inl, inr, arith}
use native.Mathlib.Decide.{ℕ_discrete}
use Rattle.fill_steps.specs.inner.Work.{span, stepped, at, target, WorkStep}
use Rattle.fill_steps.specs.inner.Band.{Band, Falls}
use Rattle.fill_steps.specs.inner.Taken.{OfferMade, Masks, SideStep, SideAfter, PastSides, Offered, TakenLeft}
use Rattle.fill_steps.proofs.Kept.{MayStep, NorthTaken, Rounds}
use Rattle.fill_steps.proofs.Numbers.{like}
use Rattle.fill_steps.proofs.OneStep.{OfferFits, inside, one_step, straight_fits}
use Rattle.fill_steps.proofs.SideCells.{mask_read, diagonal_fits}

pub falls_more : (w : Band) (x q x' q' x'' q'' : List ℕ) → Falls w x q x' q' → Falls w x' q' x'' q'' → Falls w x q x'' q''
falls_more w x q x' q' x'' q'' f k = record {
  low = λ z. omega (arith, f.low z, k.low z);
  keep = λ z h. k.keep z (omega (arith, f.keep z h)) ∙ f.keep z h;
  high = λ z h. k.high z (f.high z h);
  queue = λ i h. k.queue i h ∙ f.queue i h;
}

-- the steps of the headings that are old were taken, and then others
module _ (w : Band) (Old : ℕ → Type 0) (p t : ℕ) (x₀ q₀ x q : List ℕ) (t' : ℕ) (o : MayStep w x₀ q₀ t p) (a : Offered w Old p x₀ q₀ x q t') where
  same : at x p ≡ at x₀ p
  same = a.falls.keep p o.cell.near

  -- the cell may go on
  ready : MayStep w x q t' p
  ready = let e = same in let c = o.cell in
      record {
        going = a.going;
        small = o.small;
        cell = record { free = omega (arith, c.free); after = omega (arith, c.after); near = omega (arith, c.near) };
      }

  offered_more : (New All : ℕ → Type 0) (x' q' : List ℕ) (t'' : ℕ) → Offered w New p x q x' q' t'' → ((j : ℕ) → j < 8 → All j → (Old j) ⊎ (New j))
      → Offered w All p x₀ q₀ x' q' t''
  offered_more New All x' q' t'' m cover = record {
    going = m.going;
    falls = falls_more w x₀ q₀ x q x' q' a.falls m.falls;
    done = λ j z k s. by j z s (cover j s.heading k);
  }
    where
      by : (j z : ℕ) → WorkStep w.floor j p z → (Old j) ⊎ (New j) → at x' z ≤ stepped j (at x₀ p)
      by j z s (inl k) = omega (arith, a.done j z k s, m.falls.low z)
      by j z s (inr k) = omega (arith, m.done j z k s, ap (stepped j) same)

  -- then the step h
  step_more : (All : ℕ → Type 0) (h c : ℕ) (x' q' : List ℕ) (t'' : ℕ) → h < 8 → OfferMade (target p h) c t' x q x' q' t'' → OfferFits x p h c
      → ((j : ℕ) → All j → j ≢ h → Old j) → Offered w All p x₀ q₀ x' q' t''
  step_more All h c x' q' t'' b made fits cover =
      offered_more (λ j. j ≡ h) All x' q' t'' (one_step w x q t' p h c x' q' t'' b made ready fits) (λ j l k. by j k (ℕ_discrete j h))
    where
      by : (j : ℕ) → All j → Dec (j ≡ h) → (Old j) ⊎ (j ≡ h)
      by j k (yes e) = inr e
      by j k (no e) = inl (cover j k e)

module _ (p v north t : ℕ) (x₀ q₀ : List ℕ) where
  -- a round with the diagonal heading h: the straight step after it, and then h itself
  module _ (side n : ℕ) (x q : List ℕ) (t' : ℕ) (i : Rounds p v north side n t x₀ q₀ x q t') (b : n < 4)
      (h : ℕ) (odd : h ≡ 2 * n + 1) (straight : ℕ) (sum : straight ≡ v + span) (other : ℕ) (x' q' : List ℕ) (t'' : ℕ)
      (s : SideAfter p h straight north other t' x q x' q' t'') where
    ahead : (w : Band) → NorthTaken w x₀ q₀ t p v north → Masks (at w.floor (target p ((h + 1) % 8))) other
    ahead w o = by (ℕ_discrete h 7)
      where
        to : (j : ℕ) → j ≡ (h + 1) % 8 → Masks (at w.floor (target p j)) other → Masks (at w.floor (target p ((h + 1) % 8))) other
        to j e = subst (λ (k : ℕ). Masks (at w.floor (target p k)) other) e

        by : Dec (h ≡ 7) → Masks (at w.floor (target p ((h + 1) % 8))) other
        by (yes e) = to 0 (omega arith) (subst (Masks (at w.floor (target p 0))) (sym (s.last e).3) o.mask)
        by (no e) = to (h + 1) (omega arith) (mask_read w x q t' (i.keeps w o).going _ _ (s.step (omega arith)).mask)

    -- all headings to h + 1 but h
    abbrev Others : ℕ → Type 0
    Others j = (0 < j) × (j ≤ 2 * (n + 1)) × (j ≢ h)

    side_keeps : (w : Band) → NorthTaken w x₀ q₀ t p v north → Offered w Others p x₀ q₀ x' q' t''
    side_keeps w o = by (ℕ_discrete h 7) (i.keeps w o)
      where
        by : Dec (h ≡ 7) → Offered w (λ j. (0 < j) × (j ≤ 2 * n)) p x₀ q₀ x q t' → Offered w Others p x₀ q₀ x' q' t''
        by (yes e) a = let l = s.last e in
            subst (λ (u : List ℕ). Offered w Others p x₀ q₀ u q' t'') (sym l.0)
            (subst (λ (u : List ℕ). Offered w Others p x₀ q₀ x u t'') (sym l.1)
            (subst (Offered w Others p x₀ q₀ x q) (sym l.2)
            (record { going = a.going; falls = a.falls; done = λ j z k u. a.done j z (k.0, omega (arith, k, u.heading)) u })))
        by (no e) a =
            let r = ready w _ p t x₀ q₀ x q t' o.ready a in
            let m = same w _ p t x₀ q₀ x q t' o.ready a in
            let known : h + 1 < 8 = omega arith in
            step_more w _ p t x₀ q₀ x q t' o.ready a Others (h + 1) straight x' q' t'' known (s.step (omega arith)).offer
            (straight_fits w x q t' p (h + 1) straight r known (omega arith) (omega (arith, o.number)))
            (λ j k d. (k.0, omega (arith, k)))

    module _ (cand c place : ℕ) (x'' q'' : List ℕ) (t''' : ℕ) (slant : cand ≡ stepped 1 v) (past : PastSides cand side other c)
        (to : place ≡ target p h) (made : OfferMade place c t'' x' q' x'' q'' t''') where
      more_keeps : (w : Band) → NorthTaken w x₀ q₀ t p v north → Offered w (λ j. (0 < j) × (j ≤ 2 * (n + 1))) p x₀ q₀ x'' q'' t'''
      more_keeps w o =
          let a = side_keeps w o in
          let e : v ≡ at x' p = sym (same w Others p t x₀ q₀ x' q' t'' o.ready a ∙ o.number) in
          let cand-is : cand ≡ stepped h (at x' p) = slant ∙ ap (stepped 1) e ∙ like 1 h (at x' p) (omega arith) in
          let behind : Masks (at w.floor (target p (h - 1))) side = subst (λ (k : ℕ). Masks (at w.floor (target p k)) side) (omega arith) (i.behind w o b) in
          step_more w Others p t x₀ q₀ x' q' t'' o.ready a _ h c x'' q'' t''' (omega arith)
          (subst (λ (z : ℕ). OfferMade z c t'' x' q' x'' q'' t''') to made)
          (diagonal_fits w x' q' t'' a.going p h cand c cand-is side other (omega arith) (omega arith) (inside o.ready).low behind (ahead w o) past)
          (λ j k d. (k.0, k.1, d))

      pub headings_more : Rounds p v north other (n + 1) t x₀ q₀ x'' q'' t'''
      headings_more = record {
        keeps = more_keeps;
        behind = λ w o k. subst (λ (j : ℕ). Masks (at w.floor (target p j)) other) (omega arith) (ahead w o);
      }

-- north was first
pub headings_all : (p v north t straight : ℕ) (x₀ q₀ x₁ q₁ : List ℕ) (t₁ side n : ℕ) (x q : List ℕ) (t' : ℕ) → at x₀ p ≡ v → straight ≡ v + span
    → SideStep p 0 straight north t x₀ q₀ x₁ q₁ t₁ → Rounds p v north side n t₁ x₁ q₁ x q t' → 4 ≤ n → TakenLeft p t x₀ q₀ x q t'
headings_all p v north t straight x₀ q₀ x₁ q₁ t₁ side n x q t' e sum first i b = record {
  keeps = λ w g small cell. keeps w (record { going = g; small = small; cell = cell });
}
  where
    keeps : (w : Band) → MayStep w x₀ q₀ t p → Offered w (λ j. j < 8) p x₀ q₀ x q t'
    keeps w o =
        let fits = straight_fits w x₀ q₀ t p 0 straight o (omega arith) refl (omega arith) in
        let a = one_step w x₀ q₀ t p 0 straight x₁ q₁ t₁ (omega arith) first.offer o fits in
        let m = i.keeps w (record {
          ready = ready w _ p t x₀ q₀ x₁ q₁ t₁ o a;
          number = same w _ p t x₀ q₀ x₁ q₁ t₁ o a ∙ e;
          mask = mask_read w x₀ q₀ t o.going _ _ first.mask;
        }) in
        offered_more w _ p t x₀ q₀ x₁ q₁ t₁ o a _ (λ j. j < 8) x q t' m (λ j l k. by j l (ℕ_discrete j 0))
      where
        by : (j : ℕ) → j < 8 → Dec (j ≡ 0) → (j ≡ 0) ⊎ ((0 < j) × (j ≤ 2 * n))
        by j l (yes z) = inl z
        by j l (no z) = inr (omega arith, omega arith)
