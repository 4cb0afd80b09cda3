-- One offer to one cell keeps what the bands keep.
use Rattle.std.proofs.Common.{◌≡◌, ℕ, ◌+◌, ◌*◌, ◌<◌, ◌≤◌, ◌≢◌, ◌⊎◌, List, length, get_or, set, sym, refl, ap, ◌∙◌, subst, inl, inr, arith, length-set, get_or-set_other, get_or-set_same}
use native.Mathlib.Decide.{ℕ_discrete}
use Rattle.fill_steps.specs.inner.Work.{unreached, span, goal_number, stepped, highest, at, WorkStep, QueueRoom}
use Rattle.fill_steps.specs.inner.Band.{Band, Support, Listed, PastBand, Underway, Falls}
use Rattle.fill_steps.specs.inner.Taken.{This}
use Rattle.fill_steps.proofs.Numbers.{stretch}
use Rattle.table_theory.proofs.Lists.{each}

-- what stands in the queue before its end
front : (q : List ℕ) (t a i : ℕ) → i < t → get_or (set q t a) i 0 ≡ get_or q i 0
front q t a i h = get_or-set_other q t i a 0 (omega arith)

-- another queue does as well, if it is as long and has the same cells from where the band began up to its end
pub same_behind :
    (w : Band) (x q q' : List ℕ) (t : ℕ) → Underway w x q t → length q' ≡ length q → ((i : ℕ) → w.end ≤ i → i < t → get_or q' i 0 ≡ get_or q i 0)
    → Underway w x q' t
same_behind w x q q' t g size same = record {
  border = g.border;
  cells = g.cells;
  room = record { few = g.room.few; narrow = omega (arith, g.room.narrow); enough = omega (arith, g.room.enough) };
  order = g.order;
  kinds = g.kinds;
  free = g.free;
  shut = g.shut;
  start = g.start;
  below = g.below;
  support = g.support;
  relaxed = g.relaxed;
  listed = λ z o f. let l = g.listed z o f in
      record { index = l.index; here = same l.index l.after l.before ∙ l.here; after = l.after; before = l.before };
  queued = λ i m n. subst (PastBand w x) (sym (same i m n)) (g.queued i m n);
}

module _ (w : Band) (x q : List ℕ) (t a : ℕ) (g : Underway w x q t) where
  -- the queue's place after its end does not matter
  pub idle : Underway w x (set q t a) t
  idle = same_behind w x q (set q t a) t g (length-set q t a) (λ i m n. front q t a i n)

  pub idle_falls : Falls w x q x (set q t a)
  idle_falls = record { low = λ z. omega arith; keep = λ z h. refl; high = λ z h. h; queue = λ i h. front q t a i (omega (arith, g.order)) }

  -- a step in this band lowers the cell at a
  module _ (h p : ℕ) (s : WorkStep w.floor h p a) (small : w.limit ≤ highest) (cell : This x w.limit p)
      (less : stepped h (at x p) < at x a) where
    abbrev cand : ℕ
    cand = stepped h (at x p)

    -- what it offers lies past this band, in one of the next two
    low : w.limit ≤ cand
    low = omega (arith, cell.after, (stretch h (at x p)).least)

    high : cand < w.limit + 2 * span
    high = omega (arith, cell.near, (stretch h (at x p)).most)

    -- and past the goal's number: p is the goal, or was reached by a step itself
    past_goal : goal_number < cand
    past_goal = by (g.support p cell.free (omega (arith, cell.near)))
      where
        by : (at w.floor p ≡ goal_number) ⊎ Support w x p (at x p) → goal_number < cand
        by (inl e) = omega (arith, g.start p e, (stretch h (at x p)).least)
        by (inr u) = omega (arith, u.sum, (stretch u.heading (at x u.cell)).least, (stretch h (at x p)).least)

    in_x : a < length x
    in_x = omega (arith, g.border a s.to, g.cells)

    abbrev x' : List ℕ
    x' = set x a cand

    abbrev q' : List ℕ
    q' = set q t a

    new : (P : ℕ → ℕ → Type 0) → P a cand → ((z : ℕ) → z ≢ a → P z (at x z)) → (z : ℕ) → P z (at x' z)
    new = each 0 x a cand in_x

    -- cells below the limit stay
    stays : (z : ℕ) → at x z < w.limit → at x' z ≡ at x z
    stays z b = new (λ i v. at x i < w.limit → v ≡ at x i) (λ c. absurd (omega (arith, low))) (λ i e c. refl) z b

    falls : (z : ℕ) → at x' z ≤ at x z
    falls = new (λ i v. v ≤ at x i) (omega arith) (λ i e. omega arith)

    pub lower_falls : Falls w x q x' q'
    lower_falls = record {
      low = falls;
      keep = stays;
      high = new (λ i v. w.limit ≤ at x i → w.limit ≤ v) (λ o. low) (λ i e o. o);
      queue = λ i b. front q t a i (omega (arith, g.order));
    }

    supports : (z : ℕ) → 0 < at x' z → at x' z < unreached → (at w.floor z ≡ goal_number) ⊎ Support w x' z (at x' z)
    supports =
        new (λ i v. 0 < v → v < unreached → (at w.floor i ≡ goal_number) ⊎ Support w x' i v)
        (λ o f. inr (record {
          heading = h;
          cell = p;
          step = s;
          near = omega (arith, cell.near, stays p cell.near);
          sum = ap (stepped h) (sym (stays p cell.near));
        }))
        (λ i e o f. again i (g.support i o f))
      where
        again : (i : ℕ) → (at w.floor i ≡ goal_number) ⊎ Support w x i (at x i) → (at w.floor i ≡ goal_number) ⊎ Support w x' i (at x i)
        again i (inl e) = inl e
        again i (inr u) = inr (record {
          heading = u.heading;
          cell = u.cell;
          step = u.step;
          near = omega (arith, stays u.cell u.near);
          sum = u.sum ∙ ap (stepped u.heading) (sym (stays u.cell u.near));
        })

    relaxes : (j b c : ℕ) → WorkStep w.floor j b c → at x' b + span < w.limit → at x' c ≤ stepped j (at x' b)
    relaxes j b c u k =
        let m = new (λ i v. v < w.limit → at x i ≡ v) (λ n. absurd (omega (arith, low))) (λ i e n. refl) b (omega arith) in
        let f = ap (stepped j) m in
        omega (arith, falls c, g.relaxed j b c u (omega arith))

    -- all but what depends on the queue's end
    common : (t' : ℕ) → t ≤ t' → QueueRoom x' q' t' → ((z : ℕ) → at w.before z ≡ unreached → at x' z < unreached → Listed q' w.end t' z)
        → ((i : ℕ) → w.end ≤ i → i < t' → PastBand w x' (get_or q' i 0)) → Underway w x' q' t'
    common t' le room listed queued = record {
      border = g.border;
      cells = length-set x a cand ∙ g.cells;
      room = room;
      order = omega (arith, g.order);
      kinds = new (λ i v. v ≤ unreached) (omega (arith, high)) (λ i e. g.kinds i);
      free = new (λ i v. 0 < at w.floor i → 0 < v) (λ o. omega (arith, stretch h (at x p))) (λ i e. g.free i);
      shut = new (λ i v. at w.floor i ≡ 0 → v ≡ 0) (λ o. absurd (omega (arith, s.to))) (λ i e. g.shut i);
      start =
          new (λ i v. at w.floor i ≡ goal_number → v ≡ goal_number) (λ e. absurd (omega (arith, g.start a e, past_goal))) (λ i e. g.start i);
      below = new (λ i v. v < unreached → v < w.limit + 2 * span) (λ o. high) (λ i e. g.below i);
      support = supports;
      relaxed = relaxes;
      listed = listed;
      queued = queued;
    }

    next_new : (z : ℕ) → PastBand w x z → PastBand w x' z
    next_new z r =
        let p =
        new (λ i v. PastBand w x i → (w.limit ≤ v) × (v < unreached)) (λ r. (low, omega (arith, high))) (λ i e r. (r.after, r.found)) z r
        in
        record { after = p.0; found = p.1 }

    again : (z t' : ℕ) → t ≤ t' → Listed q w.end t z → Listed q' w.end t' z
    again z t' le l = record {
      index = l.index;
      here = front q t a l.index l.before ∙ l.here;
      after = l.after;
      before = omega (arith, l.before);
    }

    -- a cell that had a number already
    pub lowered : at x a < unreached → QueueRoom x' q' t → Underway w x' q' t
    lowered f room =
        common t (omega arith) room
        (new (λ i v. at w.before i ≡ unreached → v < unreached → Listed q' w.end t i) (λ o k. again a t (omega arith) (g.listed a o f))
        (λ i e o k. again i t (omega arith) (g.listed i o k)))
        (λ i l b. next_new _ (subst (PastBand w x) (sym (front q t a i b)) (g.queued i l b)))

    -- a cell that had none
    pub fresh : at x a ≡ unreached → QueueRoom x' q' (t + 1) → Underway w x' q' (t + 1)
    fresh f room =
        common (t + 1) (omega arith) room
        (new (λ i v. at w.before i ≡ unreached → v < unreached → Listed q' w.end (t + 1) i)
        (λ o k. record { index = t; here = get_or-set_same q t a 0 in_q; after = g.order; before = omega arith })
        (λ i e o k. again i (t + 1) (omega arith) (g.listed i o k)))
        (λ i l b. on i l b (ℕ_discrete i t))
      where
        in_q : t < length q
        in_q = omega (arith, g.room.enough)

        here : PastBand w x' a
        here = let e : at x' a ≡ cand = get_or-set_same x a cand 0 in_x in record { after = omega (arith, low); found = omega (arith, high) }

        on : (i : ℕ) → w.end ≤ i → i < t + 1 → Dec (i ≡ t) → PastBand w x' (get_or q' i 0)
        on i l b (yes e) = subst (PastBand w x') (sym (ap (λ (j : ℕ). get_or q' j 0) e ∙ get_or-set_same q t a 0 in_q)) here
        on i l b (no e) = next_new _ (subst (PastBand w x) (sym (front q t a i (omega arith))) (g.queued i l (omega arith)))
