-- What the steps out of one cell do: what they need to be taken in a band, and what they leave. A contract speaks of
-- every band in which the steps may be taken (`keeps`); that they are safe to take is said apart from it.
use Rattle.std.specs.Prelude.{◌≡◌, ℕ, ◌+◌, ◌-◌, ◌/◌, ◌<◌, ◌≤◌, min, List, slice_set}
use Rattle.fill_steps.specs.inner.Work.{unreached, span, stepped, highest, at, target, WorkStep, QueueRoom}
use Rattle.fill_steps.specs.inner.Band.{Band, Underway, Falls}

-- place a, which had the number v, has c if that is less, and stands behind the queue, whose end stays
pub record Lowered (a c v t : ℕ) (x q x' q' : List ℕ) (t' : ℕ) : Type 0 where
  pub cells : x' ≡ slice_set x a (min c (at x a))
  pub queue : q' ≡ slice_set q t a
  pub before : v ≡ at x a
  pub end : t' ≡ t

-- place a was offered the number c: it has the lesser one now, and stands behind the queue if it waited
pub record OfferMade (a c t : ℕ) (x q x' q' : List ℕ) (t' : ℕ) : Type 0 where
  pub cells : x' ≡ slice_set x a (min c (at x a))
  pub queue : q' ≡ slice_set q t a
  pub end : t' ≡ t + (at x a / unreached - min c (at x a) / unreached)
  pub room : QueueRoom x' q' t'

-- r is the mask of a cell with the number v: 0 if it is open, else too much to count
pub record Masks (v r : ℕ) : Type 0 where
  pub blocked : v ≡ 0 → unreached ≤ r
  pub free : 0 < v → r ≡ 0

-- r is read as its mask, which it is if no number is above that of a cell that is not reached
abbrev pub MaskRead : ℕ → ℕ → Type 0
MaskRead v r = v ≤ unreached → Masks v r

-- the straight step h out of p was taken, which offers cand, and r is the mask of the cell that it leads to
pub record SideStep (p h cand r t : ℕ) (x q x' q' : List ℕ) (t' : ℕ) : Type 0 where
  pub offer : OfferMade (target p h) cand t x q x' q' t'
  pub mask : MaskRead (at x (target p h)) r

-- the straight step after the diagonal heading h was taken; after 7, the last one, it is north, which was taken first
pub record SideAfter (p h cand north r t : ℕ) (x q x' q' : List ℕ) (t' : ℕ) : Type 0 where
  pub step : h < 7 → SideStep p (h + 1) cand r t x q x' q' t'
  pub last : h ≡ 7 → (x' ≡ x) × (q' ≡ q) × (t' ≡ t) × (r ≡ north)

-- what is offered past two side cells with the masks a and b: if one is blocked, too much to count
pub record PastSides (cand a b r : ℕ) : Type 0 where
  pub first : unreached ≤ a → unreached ≤ r
  pub second : unreached ≤ b → unreached ≤ r
  pub both : a ≡ 0 → b ≡ 0 → r ≡ cand

-- the steps of the headings that count were taken out of p
pub record Offered (w : Band) (Counts : ℕ → Type 0) (p : ℕ) (x q x' q' : List ℕ) (t' : ℕ) : Type 0 where
  pub going : Underway w x' q' t'
  pub falls : Falls w x q x' q'
  pub done : (h b : ℕ) → Counts h → WorkStep w.floor h p b → at x' b ≤ stepped h (at x p)

-- the cell at p is one of the band that ends at limit
pub record This (x : List ℕ) (limit p : ℕ) : Type 0 where
  pub free : 0 < at x p
  pub after : limit ≤ at x p + span
  pub near : at x p < limit

-- every step out of p was taken, in every band that ends where numbers have room and whose cell it is
pub record TakenLeft (p t : ℕ) (x q x' q' : List ℕ) (t' : ℕ) : Type 0 where
  pub keeps : (w : Band) → Underway w x q t → w.limit ≤ highest → This x w.limit p → Offered w (λ h. h < 8) p x q x' q' t'
