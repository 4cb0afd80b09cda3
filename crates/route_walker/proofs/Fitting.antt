-- With a filled table a step fits the numbers exactly if it lies on a shortest way, so the reader's run is the greedy
-- walk. A number is its entry packed, straight × 65,536 + diagonal, with parts below 16,384; so the number here is the
-- number there with the step added exactly if the entries differ by the step.
use Rattle.std.proofs.Common.{Some, Option, ◌≡◌, ℕ, ◌+◌, ◌%◌, ◌<◌, Bool, true, false, ◌⊎◌, List, ◌∷◌, length, get_or, sym, ap, ◌∙◌, subst, inl, inr, arith}
use Rattle.lengths.specs.declared.Length.{Length}
use Rattle.lengths.specs.Order.{◌⊕◌}
use Rattle.lengths.specs.inner.AtMost.{Within}
use Rattle.lengths.proofs.Order.{length_ext}
use Rattle.steps.specs.Heading.{weight}
use Rattle.steps.specs.inner.Ranking.{Ranking}
use Rattle.steps.specs.Step.{one_step}
use Rattle.steps.specs.Way.{Graph, Way, stay, step, Shortest}
use Rattle.steps.proofs.Ways.{tail_shortest}
use Rattle.table_theory.specs.Entry.{long, pack, parts_of, malformed, read, entry_at}
use Rattle.table_theory.specs.Filled.{Says}
use Rattle.table_theory.proofs.Lists.{get_or_any}
use Rattle.table_theory.proofs.Packing.{read_small, said_small, formed, pack_read}
use Rattle.route_walker.specs.inner.Walkers.{Run, done, more, cost, fits}
use Rattle.route_walker.proofs.Greedy.{OnShort, Follows, arrived, take, on_entries, entries_on}
use Rattle.route_walker.proofs.Searching.{Next, stop, goes, next_is, cost_pos, fits_yes, yes_fits}

-- a number and the one a step further, as lengths
numbers : (h v u : ℕ) → Within (parts_of v) → malformed u ≡ false → v ≡ u + cost h → (b : Length) × (read u ≡ long b) × (read v ≡ long (b ⊕ weight h))
numbers h v u s w e = by (formed u w)
  where
    by : (u ≡ 4294967295) ⊎ Within (parts_of u) → (b : Length) × (read u ≡ long b) × (read v ≡ long (b ⊕ weight h))
    by (inl p) = absurd (omega (arith, cost_pos h, s.straight))
    by (inr t) = (
      parts_of u,
      read_small u t,
      read_small v s ∙ ap long (length_ext (omega (arith, one_step (h % 2), t.diagonal)) (omega (arith, one_step (h % 2), t.diagonal))),
    )

module _ (G : Graph) (Goal : ℕ → Type 0) (n : ℕ) (lead : ℕ → ℕ → Option ℕ) (t : List ℕ) (o : Ranking)
    (to_step : (h x y : ℕ) → h < 8 → lead h x ≡ Some y → G.Step h x y)
    (from_step : (h x y : ℕ) → G.Step h x y → (h < 8) × (lead h x ≡ Some y))
    (weigh : (h : ℕ) → G.weight h ≡ weight h)
    (inside : (h x y : ℕ) → G.Step h x y → (x < n) × (y < n))
    (size : length t ≡ n)
    (right : (x : ℕ) → Says G Goal x (entry_at t x)) (sound : (x : ℕ) → x < n → malformed (get_or t x 4294967295) ≡ false) where
  number : (x : ℕ) → x < n → get_or t x 0 ≡ get_or t x 4294967295
  number x b = get_or_any t x 0 4294967295 (omega arith)

  -- an entry that is a length is a number with small parts
  entry_number : (x : ℕ) (a : Length) → x < n → entry_at t x ≡ long a → (get_or t x 0 ≡ pack (long a)) × Within (parts_of (get_or t x 0))
  entry_number x a b p =
      let e : get_or t x 0 ≡ pack (long a) = number x b ∙ sym (pack_read (get_or t x 4294967295) (sound x b)) ∙ ap pack p in
      let q = said_small (get_or t x 4294967295) a p in
      (e, record { straight = omega (arith, q.straight, q.diagonal); diagonal = omega (arith, q.straight, q.diagonal) })

  -- a step on a shortest way fits, and a step that fits lies on one
  on_fits : (h x y : ℕ) → OnShort G Goal h x y → fits lead t x h ≡ true
  on_fits h x y on =
      let (m, q, p) = entries_on G Goal (entry_at t) right on in
      let (bx, by) = inside h x y on.step in
      let (d, r) = from_step h x y on.step in
      let a = (entry_number x (m ⊕ G.weight h) bx p).0 in
      let b = (entry_number y m by q).0 in
      yes_fits lead t x h y r (a ∙ ap (λ (w : Length). pack (long (m ⊕ w))) (weigh h) ∙ sum m b)
    where
      sum : (m : Length) → get_or t y 0 ≡ pack (long m) → pack (long (m ⊕ weight h)) ≡ get_or t y 0 + cost h
      sum m b = omega arith

  fits_on : (h x y : ℕ) (a : Length) → h < 8 → entry_at t x ≡ long a → lead h x ≡ Some y → get_or t x 0 ≡ get_or t y 0 + cost h
      → (b : Length) × (entry_at t y ≡ long b) × (entry_at t x ≡ long (b ⊕ G.weight h))
  fits_on h x y a hb p q e =
      let (bx, by) = inside h x y (to_step h x y hb q) in
      let s = (entry_number x a bx p).1 in
      let (b, u, v) = numbers h (get_or t x 0) (get_or t y 0) s (ap malformed (number y by) ∙ sound y by) e in
      (b, ap read (sym (number y by)) ∙ u, ap read (sym (number x bx)) ∙ v ∙ ap (λ (w : Length). long (b ⊕ w)) (sym (weigh h)))

  -- where no step fits, the goal is reached
  stopped : (x : ℕ) (a : Length) → entry_at t x ≡ long a → ((h : ℕ) → h < 8 → fits lead t x h ≡ false) → Goal x
  stopped x a p off = let (g, gg, w) = short.way in by gg w short
    where
      short : Shortest G Goal x a
      short = subst (Says G Goal x) p (right x)

      by : {g : ℕ} {b : Length} → Goal g → Way G x g b → Shortest G Goal x b → Goal x
      by gg stay s = gg
      by gg (step {h = h} {y = y} {l = m} t w) s =
          let q = from_step h x y t in
          let e = on_fits h x y (record { step = t; rest = m; there = tail_shortest G gg t w s; here = s }) in
          absurd (let c : true ≡ false = sym e ∙ off h q.0 in let z : ◌≡◌ {A = ℕ} 0 1 = cc in omega arith)

  -- the reader's run is the greedy walk
  pub run_follows : {x : ℕ} {hs : List ℕ} {m : Length} (a : Length) → entry_at t x ≡ long a → Run lead t o.at x hs m → Follows G Goal o.rank x hs m
  run_follows {x} a p (done e) = arrived (by (next_is lead t o x))
    where
      by : Next lead t o x → Goal x
      by (stop q off) = stopped x a p off
      by (goes b t low) = absurd (omega arith)
  run_follows {x} a p (more {h = h} {y = y} {hs = hs} {l = m} e b q r) =
      subst (λ (w : Length). Follows G Goal o.rank x (h ∷ hs) (m ⊕ w)) (weigh h)
      (on (next_is lead t o x) (λ c d. run_follows c d r))
    where
      first : fits lead t x h ≡ true → ((k : ℕ) → k < 8 → o.rank k < o.rank h → fits lead t x k ≡ false)
          → ((c : Length) → entry_at t y ≡ long c → Follows G Goal o.rank y hs m) → Follows G Goal o.rank x (h ∷ hs) (m ⊕ G.weight h)
      first f low ih =
          let (z, q', d) = fits_yes lead t x h f in
          let c : z ≡ y = cc in
          let (w, u, v) = fits_on h x y a b p q (d ∙ ap (λ (i : ℕ). get_or t i 0 + cost h) c) in
          take
          (record {
            on = on_entries G Goal (entry_at t) right (to_step h x y b q) w u v;
            none_lower = λ k j s on. let g = from_step k x j on.step in absurd (clash (on_fits k x j on) (low k g.0 s));
          })
          (ih w u)
        where
          clash : {b : Bool} → b ≡ true → b ≡ false → ⊥
          clash e f = let z : ◌≡◌ {A = ℕ} 0 1 = cc in omega arith

      on : Next lead t o x → ((c : Length) → entry_at t y ≡ long c → Follows G Goal o.rank y hs m) → Follows G Goal o.rank x (h ∷ hs) (m ⊕ G.weight h)
      on (stop f off) ih = absurd (omega arith)
      on (goes c f low) ih = first (ap (fits lead t x) (sym e) ∙ f) (λ k d s. low k d (subst (λ (z : ℕ). o.rank k < o.rank z) (sym e) s)) ih
