-- The first band: the goal's places alone were reached, and take their steps. They are a band of their own, which ends
-- at 2 * span.
use Rattle.std.proofs.Common.{◌≡◌, refl, ap, sym, subst, ◌∙◌, ◌⊎◌, inl, inr, List, ℕ, ◌+◌, ◌*◌, ◌≤◌, ◌<◌, arith, get_or, length}
use native.Mathlib.Decide.{dec_le, ℕ_discrete}
use Rattle.fill_steps.specs.inner.Work.{unreached, span, goal_number, stepped, at, WorkStep}
use Rattle.fill_steps.specs.inner.Band.{Listed, Underway}
use Rattle.fill_steps.specs.inner.Taken.{This}
use Rattle.fill_bands.specs.inner.Solved.{Loaded, Goals, goal_band, GoalsDone}
use Rattle.fill_bands.proofs.Kept.{Between}
use Rattle.fill_bands.proofs.Onward.{supported, next_due, onward}

module _ (x q : List ℕ) (l : Loaded x q) where
  -- only the goal's places are reached
  value : (z : ℕ) → 0 < at x z → at x z < unreached → at x z ≡ goal_number
  value z o f = by (l.kinds z)
    where
      by : (at x z ≡ goal_number) ⊎ ((at x z ≡ 0) ⊎ (at x z ≡ unreached)) → at x z ≡ goal_number
      by (inl e) = e
      by (inr (inl e)) = absurd (omega arith)
      by (inr (inr e)) = absurd (omega arith)

  kind : (z : ℕ) → at x z ≤ unreached
  kind z = by (l.kinds z)
    where
      by : (at x z ≡ goal_number) ⊎ ((at x z ≡ 0) ⊎ (at x z ≡ unreached)) → at x z ≤ unreached
      by (inl e) = omega arith
      by (inr (inl e)) = omega arith
      by (inr (inr e)) = omega arith

  pub still : Underway (goal_band x) x q 0
  still = record {
    border = l.border;
    cells = refl;
    room = record { few = l.few; narrow = l.small; enough = omega (arith, l.enough) };
    order = omega arith;
    kinds = kind;
    free = λ z o. o;
    shut = λ z e. e;
    start = λ z e. e;
    below = λ z f. below z f (ℕ_discrete (at x z) 0);
    support = λ z o f. inl (value z o f);
    relaxed = λ h a b s k. absurd (omega (arith, value a s.from (omega arith)));
    listed = λ z o f. absurd (omega arith);
    queued = λ i m n. absurd (omega arith);
  }
    where
      below : (z : ℕ) → at x z < unreached → Dec (at x z ≡ 0) → at x z < 2 * span + 2 * span
      below z f (yes e) = omega arith
      below z f (no e) = omega (arith, value z (omega arith) f)

  module _ (goals : List ℕ) (are : Goals x goals) where
    -- each of them is a cell of that band
    pub in_band : (i : ℕ) → i < length goals → This x (2 * span) (get_or goals i 0)
    in_band i n =
        let e = are.are i n in
        record { free = omega arith; after = omega arith; near = omega arith }

    module _ (x' q' : List ℕ) (t : ℕ) (o : GoalsDone goals 0 x q x' q' t) where
      -- below that band's end only the goal's places are reached
      first : (z : ℕ) → 0 < at x' z → at x' z < 2 * span → at x z ≡ goal_number
      first z p b = by (dec_le (2 * span) (at x z))
        where
          by : Dec (2 * span ≤ at x z) → at x z ≡ goal_number
          by (yes m) = absurd (omega (arith, o.falls.high z m))
          by (no m) = value z (omega (arith, o.falls.low z)) (omega arith)

      -- and all that is reached past it stands in the queue
      other : (z : ℕ) → 2 * span ≤ at x' z → at x' z < unreached → Listed q' 0 t z
      other z p f = by (ℕ_discrete (at x z) unreached)
        where
          by : Dec (at x z ≡ unreached) → Listed q' 0 t z
          by (yes e) = o.going.listed z e f
          by (no e) =
              let m = o.falls.low z in
              absurd (omega (arith, value z (omega arith) (omega (arith, kind z))))

      relaxed : (h a b : ℕ) → WorkStep x h a b → at x' a < 2 * span → at x' b ≤ stepped h (at x' a)
      relaxed h a b s k =
          let e = first a (o.going.free a s.from) k in
          let g = are.all a e in
          let v : at x (get_or goals g.index 0) ≡ at x' a = ap (at x) g.here ∙ e ∙ sym (o.going.start a e) in
          let w = ap (stepped h) v in
          omega (arith, o.done g.index h b g.after g.before (subst (λ (z : ℕ). WorkStep x h z b) (sym g.here) s))

      pub begin : Between x 0 0 t (3 * span) x' q'
      begin = record {
        going = onward x x 0 (2 * span) x' q' t o.going relaxed;
        order = (omega arith, omega arith);
        below = λ z f. omega (arith, o.going.below z f);
        support = supported x x 0 (2 * span) x' q' t o.going;
        due = λ i m n. next_due x x 0 (2 * span) x' q' t o.going _ (omega arith) (o.going.queued i m n);
        in_due = λ z k. other z (omega (arith, k.after)) k.reached.found;
        waited = λ i m n. absurd (omega arith);
        start = omega arith;
        count = omega arith;
      }
