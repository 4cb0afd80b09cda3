-- One heading's step out of a cell, whatever the heading, keeps what the bands keep and offers its target what it
-- should: the offer is made past the two cells beside it. Of a straight step these are its ends, so that it need not
-- look at them.
use Rattle.std.proofs.Common.{◌≡◌, ℕ, ◌+◌, ◌-◌, ◌/◌, ◌%◌, ◌<◌, ◌≤◌, min, List, length, set, sym, ap, subst, arith, get_or-set_same}
use native.Mathlib.Decide.{dec_le, ℕ_discrete}
use lib.Seq.{set-get_or}
use Rattle.fill_steps.specs.inner.Work.{unreached, stride, span, stepped, at, OffBorder, target, beside, across, WorkStep, QueueRoom}
use Rattle.fill_steps.specs.inner.Band.{Band, Underway}
use Rattle.fill_steps.specs.inner.Taken.{OfferMade, Offered}
use Rattle.fill_steps.proofs.Kept.{MayStep}
use Rattle.fill_steps.proofs.Numbers.{straight}
use Rattle.steps.proofs.Headings.{Slope, level, upright, slanted, slope}
use Rattle.fill_steps.proofs.OneOffer.{idle, idle_falls, lowered, fresh, lower_falls}

-- a cell that has a number is open
pub open_floor : {w : Band} {x q : List ℕ} {t : ℕ} → Underway w x q t → (z : ℕ) → 0 < at x z → 0 < at w.floor z
open_floor {w} {x} g z o = by (ℕ_discrete (at w.floor z) 0)
  where
    by : Dec (at w.floor z ≡ 0) → 0 < at w.floor z
    by (yes e) = absurd (omega (arith, g.shut z e))
    by (no e) = omega arith

-- a cell that may take its steps is not on the border
pub inside : {w : Band} {x q : List ℕ} {t p : ℕ} → MayStep w x q t p → OffBorder w.floor p
inside {w} {x} {q} {t} {p} o = o.going.border p (open_floor o.going p o.cell.free)

-- c is what the step h out of p offers past the two cells beside it: if one is blocked, too much to count
pub record OfferFits (x : List ℕ) (p h c : ℕ) : Type 0 where
  pub first : at x (beside p h) ≡ 0 → at x (target p h) ≤ c
  pub second : at x (across p h) ≡ 0 → at x (target p h) ≤ c
  pub both : 0 < at x (beside p h) → 0 < at x (across p h) → c ≡ stepped h (at x p)

module _ (w : Band) (x q : List ℕ) (t p h c : ℕ) (in_table : h < 8) (o : MayStep w x q t p) (past : OfferFits x p h c) where
  abbrev a : ℕ
  a = target p h

  abbrev cand : ℕ
  cand = stepped h (at x p)

  -- the step was taken
  abbrev StepTaken : List ℕ → List ℕ → ℕ → Type 0
  StepTaken = Offered w (λ j. j ≡ h) p x q

  -- the target has the number v now
  abbrev Result : ℕ → Type 0
  Result v =
      let t' = t + (at x a / unreached - v / unreached) in
      QueueRoom (set x a v) (set q t a) t' → StepTaken (set x a v) (set q t a) t'

  g : Underway w x q t
  g = o.going

  -- the only cell that the step leads to
  only : (b : ℕ) → WorkStep w.floor h p b → b ≡ a
  only b s = omega (arith, s.place)

  taken : (x' : List ℕ) → ((b : ℕ) → WorkStep w.floor h p b → at x' b ≤ cand) → (j b : ℕ) → j ≡ h → WorkStep w.floor j p b
      → at x' b ≤ stepped j (at x p)
  taken x' done j b e = subst (λ (i : ℕ). WorkStep w.floor i p b → at x' b ≤ stepped i (at x p)) (sym e) (done b)

  nothing : ((b : ℕ) → WorkStep w.floor h p b → at x b ≤ cand) → Result (at x a)
  nothing done room =
      let e : t + (at x a / unreached - at x a / unreached) ≡ t = omega arith in
      subst (λ (l : List ℕ). StepTaken l (set q t a) (t + (at x a / unreached - at x a / unreached))) (sym (set-get_or x a 0))
      (subst (StepTaken x (set q t a)) (sym e) (record { going = idle w x q t a g; falls = idle_falls w x q t a g; done = taken x done }))

  quiet : min c (at x a) ≡ at x a → ((b : ℕ) → WorkStep w.floor h p b → at x b ≤ cand) → Result (min c (at x a))
  quiet e done = subst Result (sym e) (nothing done)

  -- the side cells and the target are open
  permitted : 0 < at x (beside p h) → 0 < at x (across p h) → 0 < at x a → WorkStep w.floor h p a
  permitted s u k = record {
    heading = in_table;
    place = omega (arith, inside o);
    from = open_floor g p o.cell.free;
    to = open_floor g a k;
    side = open_floor g (beside p h) s;
    other = open_floor g (across p h) u;
  }

  lowers : WorkStep w.floor h p a → cand < at x a → Result cand
  lowers s k room = by (dec_le unreached (at x a))
    where
      in_x : a < length x
      in_x = omega (arith, g.border a s.to, g.cells)

      done : (b : ℕ) → WorkStep w.floor h p b → at (set x a cand) b ≤ cand
      done b u = omega (arith, ap (at (set x a cand)) (only b u), get_or-set_same x a cand 0 in_x)

      ended : (n : ℕ) → t + (at x a / unreached - cand / unreached) ≡ n
          → (QueueRoom (set x a cand) (set q t a) n → Underway w (set x a cand) (set q t a) n)
          → StepTaken (set x a cand) (set q t a) (t + (at x a / unreached - cand / unreached))
      ended n e go =
          subst (StepTaken (set x a cand) (set q t a)) (sym e)
          (record {
            going = go (subst (QueueRoom (set x a cand) (set q t a)) e room);
            falls = lower_falls w x q t a g h p s o.small o.cell k;
            done = taken (set x a cand) done;
          })

      by : Dec (unreached ≤ at x a) → StepTaken (set x a cand) (set q t a) (t + (at x a / unreached - cand / unreached))
      by (yes f) =
          let m = g.kinds a in
          ended (t + 1) (omega arith) (fresh w x q t a g h p s o.small o.cell k (omega arith))
      by (no f) = ended t (omega arith) (lowered w x q t a g h p s o.small o.cell k (omega arith))

  -- a side cell is blocked
  shut_side : at x (beside p h) ≡ 0 → (b : ℕ) → WorkStep w.floor h p b → at x b ≤ cand
  shut_side e b s = absurd (omega (arith, g.free (beside p h) s.side))

  shut_other : at x (across p h) ≡ 0 → (b : ℕ) → WorkStep w.floor h p b → at x b ≤ cand
  shut_other e b s = absurd (omega (arith, g.free (across p h) s.other))

  offer_law : Result (min c (at x a))
  offer_law = by (ℕ_discrete (at x (beside p h)) 0) (ℕ_discrete (at x (across p h)) 0)
    where
      both : 0 < at x (beside p h) → 0 < at x (across p h) → Dec (at x a ≤ cand) → Result (min c (at x a))
      both s u (yes k) = quiet (omega (arith, past.both s u)) (λ b v. omega (arith, ap (at x) (only b v)))
      both s u (no k) =
          let e : min c (at x a) ≡ cand = omega (arith, past.both s u) in
          subst Result (sym e) (lowers (permitted s u (omega arith)) (omega arith))

      by : Dec (at x (beside p h) ≡ 0) → Dec (at x (across p h) ≡ 0) → Result (min c (at x a))
      by (yes e) d = quiet (omega (arith, past.first e)) (shut_side e)
      by (no e) (yes f) = quiet (omega (arith, past.second f)) (shut_other f)
      by (no e) (no f) = both (omega arith) (omega arith) (dec_le (at x a) cand)

move3 : (P : List ℕ → List ℕ → ℕ → Type 0) {x x' q q' : List ℕ} {t t' : ℕ} → x ≡ x' → q ≡ q' → t ≡ t' → P x q t → P x' q' t'
move3 P {x} {x'} {q} {q'} {t} {t'} e f d k =
    subst (λ (z : ℕ). P x' q' z) d (subst (λ (l : List ℕ). P x' l t) f (subst (λ (l : List ℕ). P l q t) e k))

-- an offer to the target of what fits is the step
pub one_step :
    (w : Band) (x q : List ℕ) (t p h c : ℕ) (x' q' : List ℕ) (t' : ℕ) → h < 8 → OfferMade (target p h) c t x q x' q' t' → MayStep w x q t p
    → OfferFits x p h c → Offered w (λ j. j ≡ h) p x q x' q' t'
one_step w x q t p h c x' q' t' in_table made o fits =
    move3 (λ u v n. Offered w (λ j. j ≡ h) p x q u v n) (sym made.cells) (sym made.queue) (sym made.end)
    (offer_law w x q t p h c in_table o fits (move3 QueueRoom made.cells made.queue made.end made.room))

-- a straight step offers its number as it is: it has no other cells beside it
pub straight_fits : (w : Band) (x q : List ℕ) (t p h c : ℕ) → MayStep w x q t p → h < 8 → h % 2 ≡ 0 → c ≡ at x p + span → OfferFits x p h c
straight_fits w x q t p h c o in_table even e = by (slope h in_table)
  where
    low : stride + 1 ≤ p
    low = (inside o).low

    free : 0 < at x p
    free = o.cell.free

    sum : c ≡ stepped h (at x p)
    sum = omega (arith, straight h (at x p) even)

    by : Slope h → OfferFits x p h c
    by (level _ r) =
        let f : beside p h ≡ p = omega (arith, low) in
        let d : across p h ≡ target p h = omega (arith, low) in
        record { first = λ k. absurd (omega (arith, free, ap (at x) f)); second = λ k. omega (arith, ap (at x) d); both = λ k m. sum }
    by (upright _ r) =
        let f : across p h ≡ p = omega (arith, low) in
        let d : beside p h ≡ target p h = omega (arith, low) in
        record { first = λ k. omega (arith, ap (at x) d); second = λ k. absurd (omega (arith, free, ap (at x) f)); both = λ k m. sum }
    by (slanted odd _) = absurd (omega arith)
