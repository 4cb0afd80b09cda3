-- The walker's step, and a run of steps by one heading: a leg. Invariants are "for every run from the start, what is
-- left of it from here".
use Rattle.std.proofs.Common.{Option, Some, None, Bool, true, false, eqb, eqb-true, ◌≡◌, ℕ, zero, suc, ◌+◌, ◌-◌, ◌%◌, ◌<◌, ◌≤◌, List, ◌∷◌, get_or, sym, refl, ap, ◌∙◌, subst, add-one, arith}
use borrow.Author.Tests.{eqb-false}
use Rattle.std.specs.Option.{option_eq}
use Rattle.lengths.specs.declared.Length.{Length}
use Rattle.lengths.specs.Order.{◌⊕◌, steps}
use Rattle.lengths.proofs.Order.{length_ext}
use Rattle.floor.specs.Floor.{Map}
use Rattle.steps.specs.Heading.{weight}
use Rattle.steps.specs.declared.heading.Heading.{Heading}
use Rattle.steps.specs.inner.Ranking.{Ranking}
use Rattle.floor.specs.inner.Ready.{SoundFloor}
use Rattle.steps.specs.inner.Leading.{lead_of}
use Rattle.steps.specs.Step.{one_step}
use Rattle.route_walker.specs.declared.Walker.{Walker}
use Rattle.route_walker.specs.Legs.{again}
use Rattle.route_walker.specs.inner.Walkers.{Run, done, more, cost, fits, next, past, taken, Stands, Steps, Stepped, Split, Walked, Leads}
use Rattle.route_walker.proofs.OnFloor.{lands, leg_short}
use Rattle.route_walker.proofs.Past.{lead_past}
use Rattle.route_walker.proofs.Searching.{Next, stop, goes, next_is, cost_pos, fits_yes, run_exists}

-- the test for another step by the same heading, by the headings' numbers
module _ (same : Heading → Heading → Bool) (numbers : (j k : Heading) → same j k ≡ eqb j.number k.number) (h : Heading) where
  pub next_same : (n : Option Heading) → option_eq same n (Some h) ≡ true → taken n ≡ h.number
  next_same None e = cc
  next_same (Some k) e = eqb-true _ _ (sym (numbers k h) ∙ e)

  pub next_other : (n : Option Heading) → option_eq same n (Some h) ≡ false → taken n ≡ h.number → ⊥
  next_other None e f = omega (arith, h.known)
  next_other (Some k) e f = eqb-false _ _ (sym (numbers k h) ∙ e) f

module _ (m : Map) (t : List ℕ) (o : Ranking) where
  -- the next heading is one of the eight, or 8
  pub next_small : (w : Walker) → Stands m t o w → taken w.next ≤ 8
  next_small w s = by (next_is (lead_of m) t o w.cell)
    where
      by : Next (lead_of m) t o w.cell → taken w.next ≤ 8
      by (stop e all) = omega (arith, s.ready)
      by (goes p f low) = omega (arith, s.ready)

  -- a walker that takes the heading h next
  module _ (w : Walker) (s : Stands m t o w) (h : Heading) (e : w.next ≡ Some h) where
    number : taken w.next ≡ h.number
    number = ap taken e

    -- its step fits
    fits_next : (y : ℕ) × (lead_of m h.number w.cell ≡ Some y) × (get_or t w.cell 0 ≡ get_or t y 0 + cost h.number)
    fits_next = by (next_is (lead_of m) t o w.cell)
      where
        by : Next (lead_of m) t o w.cell → (y : ℕ) × (lead_of m h.number w.cell ≡ Some y) × (get_or t w.cell 0 ≡ get_or t y 0 + cost h.number)
        by (stop p all) = absurd (omega (arith, s.ready, number, h.known))
        by (goes p f low) = fits_yes (lead_of m) t w.cell h.number (ap (fits (lead_of m) t w.cell) (sym number ∙ s.ready) ∙ f)

    -- so its length has room for a step
    pub room_to_step : steps w.length + 1 < 4294967296
    room_to_step = let (y, p, d) = fits_next in omega (arith, s.few, cost_pos h.number)

    -- where the step leads, as the code counts it
    pub step_led : (p : ℕ) → p ≡ past m.width w.cell h.number → (m.width + 1 ≤ p) × (lead_of m h.number w.cell ≡ Some (p - (m.width + 1)))
    step_led p i =
        let (y, q, d) = fits_next in
        let f = lead_past m h.number w.cell h.known y q in
        let g : y ≡ p - (m.width + 1) = omega arith in
        (omega arith, q ∙ ap Some g)

    -- the walker moved
    pub step_to : (v : Walker) → lead_of m h.number w.cell ≡ Some v.cell → v.length ≡ w.length ⊕ weight h.number
        → taken v.next ≡ next (lead_of m) t o.at v.cell → Stepped m t o w v
    step_to v q sum ready =
        let (y, p, d) = fits_next in
        let c : y ≡ v.cell = cc in
        let n : get_or t w.cell 0 ≡ get_or t v.cell 0 + cost h.number = d ∙ ap (λ (i : ℕ). get_or t i 0 + cost h.number) c in
        let k = ap steps sum in
        record {
          still = λ i. absurd (omega (arith, number, h.known));
          moved = λ i. record {
            lead = rw number q;
            sum = rw number sum;
            falls = omega (arith, cost_pos h.number);
            stands = record {
              on = lands m h.number w.cell v.cell h.known q;
              ready = ready;
              few = omega (arith, s.few, cost_pos h.number, one_step (h.number % 2));
            };
          };
        }

  again_more : (n h : ℕ) (hs : List ℕ) → again n h (h ∷ hs) ≡ again (suc n) h hs
  again_more zero h hs = refl
  again_more (suc n) h hs = ap (λ (r : List ℕ). h ∷ r) (again_more n h hs)

  -- one step of a run
  run_step : (w v : Walker) → Stands m t o w → taken w.next < 8 → Steps m t o w v
      → (hs : List ℕ) (a : Length) → Run (lead_of m) t o.at w.cell hs a → Split m t o w v 1 (taken w.next) hs a
  run_step w v s b p hs a (done e) = absurd (omega (arith, s.ready))
  run_step w v s b p hs a (more {h = h} {y = y} {hs = ks} {l = d} e c q r) =
      let f : h ≡ taken w.next = sym e ∙ sym s.ready in
      let g : lead_of m (taken w.next) w.cell ≡ Some y = ap (λ (i : ℕ). lead_of m i w.cell) (sym f) ∙ q in
      let j : y ≡ v.cell = let k = p.lead in cc in
      let us = ap (λ (i : Length). i.straight) p.sum in
      let ud = ap (λ (i : Length). i.diagonal) p.sum in
      let zs = ap (λ (i : ℕ). (weight i).straight) f in
      let zd = ap (λ (i : ℕ). (weight i).diagonal) f in
      record {
        rest = ks;
        left = d;
        run = subst (λ (i : ℕ). Run (lead_of m) t o.at i ks d) j r;
        heads = ap (λ (i : ℕ). i ∷ ks) f;
        sum = length_ext (omega arith) (omega arith);
      }

  -- while its next heading is h, the walker moves
  moves : (w v : Walker) (h : ℕ) → h < 8 → taken w.next ≡ h → Stepped m t o w v → Steps m t o w v
  moves w v h b e s = s.moved (subst (λ (i : ℕ). i < 8) (sym e) b)

  -- one step more
  pub going_more : (w v u : Walker) (n h : ℕ) → h < 8 → Walked m t o w v n h → taken v.next ≡ h → Stepped m t o v u → Walked m t o w u (n + 1) h
  going_more w v u n h b g e d =
      let s = moves v u h b e d in
      record {
        stands = s.stands;
        falls = omega (arith, g.falls, s.falls);
        first = λ z. absurd (omega arith);
        split = λ hs a r. by s (g.split hs a r);
      }
    where
      by : {hs : List ℕ} {a : Length} → Steps m t o v u → Split m t o w v n h hs a → Split m t o w u (n + 1) h hs a
      by s p =
          let q = run_step v u g.stands (subst (λ (i : ℕ). i < 8) (sym e) b) s p.rest p.left p.run in
          record {
            rest = q.rest;
            left = q.left;
            run = q.run;
            heads = p.heads ∙ ap (again n h) (q.heads ∙ ap (λ (i : ℕ). i ∷ q.rest) e) ∙ again_more n h q.rest
                ∙ ap (λ (i : ℕ). again i h q.rest) (sym (add-one n));
            sum = q.sum ∙ p.sum;
          }

  -- the leg is whole
  pub going_leads : (c : SoundFloor m) (w v : Walker) (h : Heading) (n : ℕ) → h.number ≡ taken w.next → Stands m t o w → Walked m t o w v n h.number
      → (taken v.next ≡ h.number → ⊥) → Leads m t o w (record { heading = h; count = n; after = v })
  going_leads c w v h n b s g ends = record {
    heading = b;
    going = subst (Walked m t o w v n) b g;
    whole = λ e. ends (e ∙ sym b);
    some = by n g.first;
    short =
        let (hs, a, r) = run_exists (lead_of m) t o w.cell in
        let p = g.split hs a r in
        leg_short m c n h.number p.rest t o.at (subst (λ (i : List ℕ). Run (lead_of m) t o.at w.cell i a) p.heads r);
  }
    where
      by : (i : ℕ) → (i ≡ 0 → v ≡ w) → 0 < i
      by zero f = absurd (ends (ap (λ (z : Walker). taken z.next) (f refl) ∙ sym b))
      by (suc i) f = omega arith
