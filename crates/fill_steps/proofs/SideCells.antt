-- The four cells beside a place, which a diagonal step goes past. Each is read once, before one of the two steps past
-- it, and that is as good as just before each: blocked cells stay blocked and open ones open.
use Rattle.std.proofs.Common.{◌≡◌, ℕ, ◌+◌, ◌-◌, ◌%◌, ◌<◌, ◌≤◌, ◌⊎◌, List, sym, ap, ◌∙◌, subst, inl, inr, arith}
use native.Mathlib.Decide.{ℕ_discrete}
use Rattle.fill_steps.specs.inner.Work.{unreached, stride, stepped, at, target, beside, across}
use Rattle.fill_steps.specs.inner.Band.{Band, Underway}
use Rattle.fill_steps.specs.inner.Taken.{Masks, MaskRead, PastSides}
use Rattle.steps.proofs.Headings.{Flank, Corner, Slope, level, upright, slanted, slope}
use Rattle.fill_steps.proofs.OneStep.{open_floor, OfferFits}

module _ (w : Band) (x q : List ℕ) (t : ℕ) (g : Underway w x q t) where
  -- a mask that is read while the steps are taken is that of the cell as it was loaded
  pub mask_read : (z r : ℕ) → MaskRead (at x z) r → Masks (at w.floor z) r
  mask_read z r read = let m = read (g.kinds z) in record { blocked = λ e. m.blocked (g.shut z e); free = λ o. m.free (g.free z o) }

  -- a cell that is blocked now was loaded so
  shut_floor : (z : ℕ) → at x z ≡ 0 → at w.floor z ≡ 0
  shut_floor z e = by (ℕ_discrete (at w.floor z) 0)
    where
      by : Dec (at w.floor z ≡ 0) → at w.floor z ≡ 0
      by (yes d) = d
      by (no d) = absurd (omega (arith, g.free z (omega arith)))

  module _ (p h cand c : ℕ) (sum : cand ≡ stepped h (at x p)) where
    past_fits : (a b : ℕ) → Masks (at w.floor (across p h)) a → Masks (at w.floor (beside p h)) b → (PastSides cand a b c) ⊎ (PastSides cand b a c)
        → OfferFits x p h c
    past_fits a b m n past = let k = g.kinds (target p h) in
        record {
          first = λ e. omega (arith, high past (inr (n.blocked (shut_floor (beside p h) e))));
          second = λ e. omega (arith, high past (inl (m.blocked (shut_floor (across p h) e))));
          both = λ s u. same past (m.free (open_floor g (across p h) u)) (n.free (open_floor g (beside p h) s)) ∙ sum;
        }
      where
        high : (PastSides cand a b c) ⊎ (PastSides cand b a c) → (unreached ≤ a) ⊎ (unreached ≤ b) → unreached ≤ c
        high (inl k) (inl u) = k.first u
        high (inl k) (inr u) = k.second u
        high (inr k) (inl u) = k.second u
        high (inr k) (inr u) = k.first u

        same : (PastSides cand a b c) ⊎ (PastSides cand b a c) → a ≡ 0 → b ≡ 0 → c ≡ cand
        same (inl k) e f = k.both e f
        same (inr k) e f = k.both f e

    pub diagonal_fits : (a b : ℕ) → h < 8 → h % 2 ≡ 1 → stride + 1 ≤ p → Masks (at w.floor (target p (h - 1))) a
        → Masks (at w.floor (target p ((h + 1) % 8))) b → PastSides cand a b c → OfferFits x p h c
    diagonal_fits a b in_table odd low m n past = by (slope h in_table)
      where
        move : (i j z r : ℕ) → j ≡ i → target p j ≡ z → Masks (at w.floor (target p i)) r → Masks (at w.floor z) r
        move i j z r d e k = subst (λ (y : ℕ). Masks (at w.floor y) r) (ap (target p) (sym d) ∙ e) k

        by : Slope h → OfferFits x p h c
        by (level even _) = absurd (omega arith)
        by (upright even _) = absurd (omega arith)
        by (slanted _ k) = between k k.flank
          where
            between : (k : Corner h) → Flank h k.first k.second → OfferFits x p h c
            between k (inl f) =
                past_fits _ _ (move _ _ (across p h) _ f.0 (omega (arith, k.along)) m) (move _ _ (beside p h) _ f.1 (omega (arith, k.down)) n)
                (inl past)
            between k (inr f) =
                past_fits _ _ (move _ _ (across p h) _ f.0 (omega (arith, k.along)) n) (move _ _ (beside p h) _ f.1 (omega (arith, k.down)) m)
                (inr past)
