-- From one band to the next. The argument, in words:
-- 1. All numbers below `limit`, the band's end, are settled: they were reached by steps out of cells before the band,
--    all of which were taken, and none of them rises or falls any more.
-- 2. This band's cells are those below `limit` that have not taken their steps. Any step is one band long at least and
--    two at most, so what they offer lies in the next band or in the one after that, whatever the order of the steps.
-- 3. So the settled cells stay, and afterwards no step out of a cell below `limit` would lower a cell: the limit can
--    rise by a straight step.
-- 4. The cells that have not taken their steps are those that waited in this band, and those that it reached.
-- 5. What waited in this band was reached before it, by a step out of a cell before the band, and so lies less than one
--    band past its end. It does not wait in the next one.
-- 6. No band is empty, so there are no more bands than cells, which bounds every number (`count`).
use Rattle.std.proofs.Common.{◌≡◌, refl, ap, sym, subst, ◌∙◌, List, ℕ, ◌+◌, ◌≤◌, ◌<◌, arith, get_or}
use native.Mathlib.Decide.{dec_le, ℕ_discrete}
use Rattle.fill_steps.specs.inner.Work.{unreached, span, stepped, at, WorkStep}
use Rattle.fill_steps.specs.inner.Band.{Band, Listed, Reached}
use Rattle.fill_bands.specs.inner.Pass.{Due, PassReady, PassDone, PassLeft}
use Rattle.fill_bands.proofs.Kept.{wider, the, Between}
use Rattle.fill_bands.proofs.Onward.{supported, next_due, onward}
use Rattle.fill_bands.proofs.SomeCell.{small, some_cell}

module _ (floor : List ℕ) (mid fresh tail limit : ℕ) (x q : List ℕ) (g : Between floor mid fresh tail limit x q) (more : mid < tail) where
  abbrev w : Band
  w = the floor x tail limit

  pub pass_ready : PassReady (the floor x tail limit) x q mid fresh tail
  pass_ready = record {
    going = g.going;
    small = small floor mid fresh tail limit x q g more;
    begins = refl;
    order = g.order;
    cells = g.due;
    waited = g.waited;
  }

  module _ (x' q' : List ℕ) (top t : ℕ) (l : PassLeft mid fresh limit top tail x q x' q' t) where
    d : PassDone (the floor x tail limit) mid top x q x' q' t
    d = l.keeps w refl pass_ready

    pub grows : mid < top
    grows = let c = some_cell floor mid fresh tail limit x q g more in d.fewer c.index c.after c.before c.near

    -- what is below the band's end was so when the band began
    was : (z : ℕ) → at x' z < limit → at x z ≡ at x' z
    was z m = by (dec_le limit (at x z))
      where
        by : Dec (limit ≤ at x z) → at x z ≡ at x' z
        by (yes n) = absurd (omega (arith, d.high z n))
        by (no n) = sym (d.keep z (omega arith))

    -- no step out of a cell below the band's end would lower a cell
    now_relaxed : (h a b : ℕ) → WorkStep floor h a b → at x' a < limit → at x' b ≤ stepped h (at x' a)
    now_relaxed h a b u m = by (dec_le limit (at x' a + span))
      where
        e : at x a ≡ at x' a
        e = was a m

        by : Dec (limit ≤ at x' a + span) → at x' b ≤ stepped h (at x' a)
        by (no n) = d.going.relaxed h a b u (omega arith)
        by (yes n) =
            let reached : Reached x a = record { free = g.going.free a u.from; found = omega (arith, e, pass_ready.small) } in
            let i = g.in_due a (record { reached = reached; after = omega (arith, e) }) in
            let f : at x (get_or q i.index 0) ≡ at x' a = ap (at x) i.here ∙ e in
            let s = ap (stepped h) f in
            omega (
              arith,
              d.done i.index h b i.after i.before (omega arith) (subst (λ (z : ℕ). WorkStep floor h z b) (sym i.here) u),
            )

    -- what stands in the queue was reached, and lies past the band
    now_due : (i : ℕ) → top ≤ i → i < t → Due x' (limit + span) (get_or q' i 0)
    now_due i m n = by (dec_le tail i)
      where
        by : Dec (tail ≤ i) → Due x' (limit + span) (get_or q' i 0)
        by (yes k) = next_due floor x tail limit x' q' t d.going _ (omega (arith, g.start)) (d.going.queued i k n)
        by (no k) =
            let r = d.waits i m (omega arith) in
            let a = d.high (get_or q' i 0) r.1 in
            record {
              reached = record { free = omega (arith, g.start); found = omega (arith, d.low (get_or q' i 0), r.0.found) };
              after = omega arith;
            }

    -- and everything reached that lies past the band stands there
    now_listed : (z : ℕ) → Due x' (limit + span) z → Listed q' top t z
    now_listed z k = by (ℕ_discrete (at x z) unreached)
      where
        by : Dec (at x z ≡ unreached) → Listed q' top t z
        by (yes e) = wider q' tail t top t z l.order (omega arith) (d.going.listed z e k.reached.found)
        by (no e) =
            let low = d.low z in
            let reached : Reached x z = record { free = omega (arith, k.reached.free); found = omega (arith, g.going.kinds z) } in
            let i = g.in_due z (record { reached = reached; after = omega (arith, k.after) }) in
            let f : at x (get_or q i.index 0) ≡ at x z = ap (at x) i.here in
            let j = d.listed i.index i.after i.before (omega (arith, k.after)) in
            wider q' top tail top t z (omega arith) d.going.order (subst (Listed q' top tail) i.here j)

    -- what waited lies below the next band's end
    now_ready : (i : ℕ) → top ≤ i → i < tail → at x' (get_or q' i 0) < limit + span
    now_ready i m n = let z = get_or q' i 0 in omega (arith, d.low z, g.below z (d.waits i m n).0.found)

    pub next : Between floor top tail t (limit + span) x' q'
    next = record {
      going = onward floor x tail limit x' q' t d.going now_relaxed;
      order = (l.order, d.going.order);
      below = λ z f. omega (arith, d.going.below z f);
      support = supported floor x tail limit x' q' t d.going;
      due = now_due;
      in_due = now_listed;
      waited = now_ready;
      start = omega (arith, g.start);
      count = omega (arith, g.count, grows);
    }
