-- No band is empty: if cells are left, one of them lies below the band's end. For take any that does not. It was
-- reached by a step out of a settled cell, and not by a straight one, which is not long enough. So it was by a diagonal
-- one, and the cell beside, which is one straight step from both, lies below the band's end. Had it taken its steps, it
-- would have offered less.
use Rattle.std.proofs.Common.{◌≡◌, ap, ◌⊎◌, inl, inr, List, ℕ, ◌+◌, ◌-◌, ◌%◌, ◌≤◌, ◌<◌, arith, get_or}
use native.Mathlib.Decide.{dec_le}
use Rattle.fill_steps.specs.inner.Work.{stride, span, goal_number, highest, at, across, WorkStep}
use Rattle.fill_steps.specs.inner.Band.{Support}
use Rattle.fill_steps.proofs.Numbers.{straight}
use Rattle.steps.proofs.Headings.{Corner, Slope, level, upright, slanted, slope}
use Rattle.fill_steps.proofs.InWork.{also}
use Rattle.fill_bands.proofs.Kept.{the, Between}

module _ (floor : List ℕ) (h a b : ℕ) (s : WorkStep floor h a b) (low : stride + 1 ≤ a) (k : Corner h) where
  -- first along the row, then along the column
  first_step : WorkStep floor k.first a (across a h)
  first_step = record {
    heading = k.known.0;
    place = omega (arith, k.along);
    from = s.from;
    to = s.other;
    side = also floor a _ (omega (arith, k.along)) s.from;
    other = also floor (across a h) _ (omega (arith, k.along)) s.other;
  }

  second_step : WorkStep floor k.second (across a h) b
  second_step = record {
    heading = k.known.1;
    place = omega (arith, s.place, k.down);
    from = s.other;
    to = s.to;
    side = also floor b _ (omega (arith, s.place, k.down)) s.to;
    other = also floor (across a h) _ (omega (arith, k.down)) s.other;
  }

-- a cell of q[mid..tail] that lies below limit
pub record ReadyCell (x q : List ℕ) (mid tail limit : ℕ) : Type 0 where
  pub index : ℕ
  pub after : mid ≤ index
  pub before : index < tail
  pub near : at x (get_or q index 0) < limit

module _ (floor : List ℕ) (mid fresh tail limit : ℕ) (x q : List ℕ) (g : Between floor mid fresh tail limit x q) (more : mid < tail) where
  pub small : limit ≤ highest
  small = omega (arith, g.count, g.going.room)

  -- no straight step out of a settled cell would lower a cell
  one : (h a b : ℕ) → WorkStep floor h a b → h % 2 ≡ 0 → at x a + span < limit → at x b ≤ at x a + span
  one h a b s e m = omega (arith, g.going.relaxed h a b s m, straight h (at x a) e)

  abbrev z : ℕ
  z = get_or q mid 0

  module _ (far : limit ≤ at x z) (u : Support (the floor x tail (limit - span)) x z (at x z)) where
    abbrev a : ℕ
    a = u.cell

    abbrev c : ℕ
    c = across a u.heading

    beside : Corner u.heading → ReadyCell x q mid tail limit
    beside k = by (dec_le limit (at x c + span))
      where
        inside : stride + 1 ≤ a
        inside = (g.going.border a u.step.from).low

        there : WorkStep floor k.first a c
        there = first_step floor u.heading a z u.step inside k

        on : WorkStep floor k.second c z
        on = second_step floor u.heading a z u.step inside k

        below : at x c < limit
        below = omega (arith, one k.first a c there k.even.0 (omega (arith, u.near)), u.near)

        by : Dec (limit ≤ at x c + span) → ReadyCell x q mid tail limit
        by (yes m) =
            let i = g.in_due c (record { reached = record { free = g.going.free c on.from; found = omega (arith, below, small) }; after = m }) in
            record { index = i.index; after = i.after; before = i.before; near = omega (arith, below, ap (at x) i.here) }
        by (no m) = absurd (omega (arith, one k.second c z on k.even.1 (omega arith)))

    by_step : Slope u.heading → ReadyCell x q mid tail limit
    by_step (level e _) = absurd (omega (arith, u.near, u.sum, straight u.heading (at x a) e))
    by_step (upright e _) = absurd (omega (arith, u.near, u.sum, straight u.heading (at x a) e))
    by_step (slanted _ k) = beside k

  pub some_cell : ReadyCell x q mid tail limit
  some_cell = by (dec_le limit (at x z))
    where
      past : limit ≤ at x z → (at floor z ≡ goal_number) ⊎ Support (the floor x tail (limit - span)) x z (at x z) → ReadyCell x q mid tail limit
      past far (inl e) = absurd (omega (arith, g.going.start z e, g.start))
      past far (inr u) = by_step far u (slope u.heading u.step.heading)

      by : Dec (limit ≤ at x z) → ReadyCell x q mid tail limit
      by (yes far) = past far (g.support z (g.due mid (omega arith) more).reached)
      by (no m) = record { index = mid; after = omega arith; before = more; near = omega arith }
