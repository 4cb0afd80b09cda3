-- One pass over the cells of a band: once the fresh ones are parted, the ready ones, with those that waited in the band
-- before, take their steps one by one, and the others wait.
use Rattle.std.proofs.Common.{◌≡◌, ap, sym, subst, ◌∙◌, List, ℕ, ◌+◌, ◌≤◌, ◌<◌, arith, get_or, length}
use native.Mathlib.Decide.{dec_le, ℕ_discrete}
use Rattle.fill_steps.specs.inner.Work.{highest, stepped, at, OffBorder, WorkStep}
use Rattle.fill_steps.specs.inner.Band.{Band, Listed, Reached, Underway}
use Rattle.fill_steps.specs.inner.Taken.{Offered, This, TakenLeft}
use Rattle.fill_bands.specs.inner.Pass.{Due, Parted, StepsReady, StepsDone, StepsLeft, PassReady, PassDone, PassLeft}
use Rattle.fill_steps.proofs.OneOffer.{same_behind}
use Rattle.fill_steps.proofs.OneStep.{open_floor}
use Rattle.fill_steps.proofs.ManySteps.{falls_more}
use Rattle.fill_bands.proofs.Parting.{parted_before}

-- an open cell is not on the border
inside : (w : Band) (x q : List ℕ) (t : ℕ) → Underway w x q t → (z : ℕ) → 0 < at x z → OffBorder x z
inside w x q t g z o =
    let a = g.border z (open_floor g z o) in
    record { low = a.low; high = omega (arith, a.high, g.cells) }

-- the next cell of the list, which was one of the band's when that began, still is, and takes its steps
module _ (w : Band) (list : List ℕ) (low i : ℕ) (x₀ q₀ x q : List ℕ) (t : ℕ) (d : StepsDone w list low i x₀ q₀ x q t)
    (small : w.limit ≤ highest) (begins : This x₀ w.limit (get_or list i 0)) where
  abbrev c : ℕ
  c = get_or list i 0

  value : at x c ≡ at x₀ c
  value = d.falls.keep c begins.near

  this : This x w.limit c
  this = record {
    free = omega (arith, value, begins.free);
    after = omega (arith, value, begins.after);
    near = omega (arith, value, begins.near);
  }

  pub one_more : (x' q' : List ℕ) (t' : ℕ) → TakenLeft c t x q x' q' t' → StepsDone w list low (i + 1) x₀ q₀ x' q' t'
  one_more x' q' t' l = record {
    going = k.going;
    falls = falls_more w x₀ q₀ x q x' q' d.falls k.falls;
    done = λ y h b u v s. done y h b u v s (ℕ_discrete y i);
  }
    where
      k : Offered w (λ h. h < 8) c x q x' q' t'
      k = l.keeps w d.going small this

      done : (y h b : ℕ) → low ≤ y → y < i + 1 → WorkStep w.floor h (get_or list y 0) b → Dec (y ≡ i)
          → at x' b ≤ stepped h (at x₀ (get_or list y 0))
      done y h b u v s (no e) = omega (arith, d.done y h b u (omega arith) s, k.falls.low b)
      done y h b u v s (yes e) =
          let g : get_or list y 0 ≡ c = ap (λ (z : ℕ). get_or list z 0) e in
          let a : stepped h (at x₀ (get_or list y 0)) ≡ stepped h (at x c) = ap (λ (z : ℕ). stepped h (at x₀ z)) g ∙ ap (stepped h) (sym value) in
          omega (arith, k.done h b s.heading (subst (λ (z : ℕ). WorkStep w.floor h z b) g s))

-- the last one did
pub steps_all :
    (w : Band) (list : List ℕ) (low high i : ℕ) (x q x' q' : List ℕ) (t' : ℕ) → StepsDone w list low i x q x' q' t' → high ≤ i
    → StepsDone w list low high x q x' q' t'
steps_all w list low high i x q x' q' t' d e = record { going = d.going; falls = d.falls; done = λ k h b m n s. d.done k h b m (omega arith) s }

-- the ready cells stand in the queue, of which the steps change nothing before its end
module _ (w : Band) (mid top t : ℕ) (x₀ q₀ : List ℕ) (r : StepsReady w x₀ q₀ mid top t) (i : ℕ) (x q : List ℕ) (t' : ℕ)
    (d : StepsDone w q₀ mid i x₀ q₀ x q t') (m : mid ≤ i) (n : i < top) where
  same : get_or q i 0 ≡ get_or q₀ i 0
  same = d.falls.queue i (omega (arith, r.order, r.begins))

  pub steps_more : (x' q' : List ℕ) (t'' : ℕ) → TakenLeft (get_or q i 0) t' x q x' q' t'' → StepsDone w q₀ mid (i + 1) x₀ q₀ x' q' t''
  steps_more x' q' t'' l =
      one_more w q₀ mid i x₀ q₀ x q t' d r.small (r.cells i m n) x' q' t'' (subst (λ (z : ℕ). TakenLeft z t' x q x' q' t'') same l)

module _ (w : Band) (x q : List ℕ) (mid fresh t : ℕ) (r : PassReady w x q mid fresh t) where
  module _ (q' : List ℕ) (top : ℕ) (p : Parted x w.limit mid t q q' top) (size : length q' ≡ length q) where
    -- no cell was reached yet in this band, so that the order of those before it does not matter
    going : Underway w x q' t
    going = same_behind w x q q' t r.going size (λ i m n. absurd (omega (arith, r.begins)))

    due : (k : ℕ) → mid ≤ k → k < t → Due x w.limit (get_or q' k 0)
    due k m n = let l = p.old k m n in subst (Due x w.limit) l.here (r.cells l.index l.after l.before)

    pub steps_ready : StepsReady w x q' mid top t
    steps_ready = record {
      going = going;
      small = r.small;
      begins = r.begins;
      order = p.order.1;
      cells = λ k m n. let d = due k m (omega (arith, p.order)) in
          record { free = d.reached.free; after = d.after; near = p.front k m n };
    }

    module _ (x' q'' : List ℕ) (t' : ℕ) (d : StepsDone w q' mid top x q' x' q'' t') where
      -- a cell below the band's end stands before top, and any other behind it
      ready : (z : ℕ) → Listed q' mid t z → at x z < w.limit → Listed q' mid top z
      ready z l m = by (dec_le top l.index)
        where
          by : Dec (top ≤ l.index) → Listed q' mid top z
          by (yes n) = absurd (omega (arith, p.back l.index n l.before, ap (at x) l.here))
          by (no n) = record { index = l.index; here = l.here; after = l.after; before = omega arith }

      waiting : (z : ℕ) → Listed q' mid t z → w.limit ≤ at x z → Listed q'' top w.end z
      waiting z l m = by (dec_le top l.index)
        where
          by : Dec (top ≤ l.index) → Listed q'' top w.end z
          by (yes n) =
              let u : l.index < w.end = omega (arith, l.before, r.begins) in
              record { index = l.index; here = d.falls.queue l.index u ∙ l.here; after = n; before = u }
          by (no n) = absurd (omega (arith, p.front l.index l.after (omega arith), ap (at x) l.here))

      kept : (k : ℕ) → mid ≤ k → k < w.end → Listed q' mid t (get_or q k 0)
      kept k m n = p.kept k m (omega (arith, r.begins))

      done : (k h b : ℕ) → mid ≤ k → k < w.end → at x (get_or q k 0) < w.limit → WorkStep w.floor h (get_or q k 0) b
          → at x' b ≤ stepped h (at x (get_or q k 0))
      done k h b m n u s =
          let l = ready (get_or q k 0) (kept k m n) u in
          let e : stepped h (at x (get_or q' l.index 0)) ≡ stepped h (at x (get_or q k 0)) = ap (λ (z : ℕ). stepped h (at x z)) l.here in
          omega (arith, d.done l.index h b l.after l.before (subst (λ (z : ℕ). WorkStep w.floor h z b) (sym l.here) s))

      waits : (k : ℕ) → top ≤ k → k < w.end → (Reached x (get_or q'' k 0)) × (w.limit ≤ at x (get_or q'' k 0))
      waits k m n =
          let u : k < t = omega (arith, r.begins) in
          subst (λ (z : ℕ). Reached x z × (w.limit ≤ at x z)) (sym (d.falls.queue k n)) ((due k (omega (arith, p.order)) u).reached, p.back k m u)

      pub pass_done : PassDone w mid top x q x' q'' t'
      pass_done = record {
        going = d.going;
        low = d.falls.low;
        keep = d.falls.keep;
        high = d.falls.high;
        done = done;
        waits = waits;
        listed = λ k m n u. waiting (get_or q k 0) (kept k m n) u;
        fewer = λ k m n u. let l = ready (get_or q k 0) (kept k m n) u in omega (arith, l.after, l.before);
      }

-- for the limit that is given, which is the band's
module _ (mid fresh t limit : ℕ) (x q q' : List ℕ) (top : ℕ) (p : Parted x limit fresh t q q' top) (size : length q' ≡ length q) where
  -- those that waited are ready and stand before the fresh ones, so that all of q[mid..t] are parted
  parted : (w : Band) → w.limit ≡ limit → PassReady w x q mid fresh t → Parted x w.limit mid t q q' top
  parted w e r =
      parted_before x w.limit mid fresh t q q' top (subst (λ (v : ℕ). Parted x v fresh t q q' top) (sym e) p) r.order.0 r.waited

  pub pass_left : (x' q'' : List ℕ) (t' : ℕ) → StepsLeft mid top t x q' x' q'' t' → PassLeft mid fresh limit top t x q x' q'' t'
  pass_left x' q'' t' l = record {
    order = p.order.1;
    keeps = λ w e r. let u = parted w e r in
        pass_done w x q mid fresh t r q' top u size x' q'' t' (l w (steps_ready w x q mid fresh t r q' top u size));
  }
