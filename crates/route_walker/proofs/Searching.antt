-- The next heading: the first, by an order of the eight, whose step is permitted and fits the table's numbers. Nothing
-- is asked of the table. The numbers fall with each such step, so the headings come to an end.
use Rattle.std.proofs.Common.{Some, None, Option, ◌≡◌, ℕ, zero, suc, ◌+◌, ◌-◌, ◌%◌, ◌<◌, ◌≤◌, Bool, true, false, eqb, List, [], ◌∷◌, get_or, sym, refl, ap, ◌∙◌, subst, le_refl, add-one, arith, eq-eqb, eqb-true}
use native.Mathlib.Decide.{ℕ_discrete}
use Rattle.answers.specs.Bools.{pick}
use Rattle.lengths.specs.declared.Length.{Length}
use Rattle.lengths.specs.Order.{zero_length, ◌⊕◌}
use Rattle.steps.specs.Heading.{weight}
use Rattle.steps.specs.inner.Ranking.{Ranking}
use Rattle.steps.specs.Step.{one_step}
use Rattle.route_walker.specs.inner.Walkers.{Run, done, more, cost, fits, fits_lead, next, seek}

-- what a step costs
pub cost_straight : (h : ℕ) → h % 2 ≡ 0 → 65536 ≡ cost h
cost_straight h e = rw e

pub cost_pos : (h : ℕ) → 0 < cost h
cost_pos h = omega (arith, one_step (h % 2))

-- a search, heading by heading
module _ (test : ℕ → Bool) (at : ℕ → ℕ) (i n : ℕ) (inv : seek test at (8 - i) i ≡ n) where
  seek_first : i < 8 → seek test at (8 - i) i ≡ pick (test (at i)) (at i) (seek test at (8 - (i + 1)) (i + 1))
  seek_first h =
      let e : 8 - i ≡ suc (8 - (i + 1)) = omega arith in
      rw (e, add-one i)

  module _ (h : i < 8) (r : Bool) (f : r ≡ test (at i)) where
    pub seek_found : r ≡ true → at i ≡ n
    seek_found g = let e : test (at i) ≡ true = sym f ∙ g in sym (seek_first h ∙ rw e) ∙ inv

    pub seek_goes : r ≡ false → seek test at (8 - (i + 1)) (i + 1) ≡ n
    seek_goes g = let e : test (at i) ≡ false = sym f ∙ g in sym (seek_first h ∙ rw e) ∙ inv

-- what a search finds
data Sought (test : ℕ → Bool) (at : ℕ → ℕ) (k i r : ℕ) : Type 0 where
  nothing : r ≡ 8 → ((j : ℕ) → i ≤ j → j < i + k → test (at j) ≡ false) → Sought test at k i r
  found : (j : ℕ) → i ≤ j → j < i + k → r ≡ at j → test (at j) ≡ true → ((n : ℕ) → i ≤ n → n < j → test (at n) ≡ false) → Sought test at k i r

sought : (test : ℕ → Bool) (at : ℕ → ℕ) (k i : ℕ) → Sought test at k i (seek test at k i)
sought test at zero i = nothing refl (λ j a b. absurd (omega arith))
sought test at (suc k) i = by (test (at i)) refl (sought test at k (suc i))
  where
    at_first : (j : ℕ) {b : Bool} → test (at i) ≡ b → j ≡ i → test (at j) ≡ b
    at_first j e p = ap (λ (z : ℕ). test (at z)) p ∙ e

    by : (b : Bool) → test (at i) ≡ b → Sought test at k (suc i) (seek test at k (suc i)) → Sought test at (suc k) i (pick b (at i) (seek test at k (suc i)))
    by true e s = found i (le_refl i) (omega arith) refl e (λ n a b. absurd (omega arith))
    by false e (nothing r all) = nothing r (λ j a b. other j a b (ℕ_discrete j i))
      where
        other : (j : ℕ) → i ≤ j → j < i + suc k → Dec (j ≡ i) → test (at j) ≡ false
        other j a b (yes p) = at_first j e p
        other j a b (no p) = all j (omega arith) (omega arith)
    by false e (found j a b r t all) = found j (omega arith) (omega arith) r t (λ n c d. other n c d (ℕ_discrete n i))
      where
        other : (n : ℕ) → i ≤ n → n < j → Dec (n ≡ i) → test (at n) ≡ false
        other n c d (yes p) = at_first n e p
        other n c d (no p) = all n (omega arith) d

module _ (lead : ℕ → ℕ → Option ℕ) (table : List ℕ) where
  -- the test, by where the heading leads
  pub fits_nowhere : (x h : ℕ) → lead h x ≡ None → false ≡ fits lead table x h
  unfolding fits
  fits_nowhere x h e = rw e

  pub fits_to : (x h y : ℕ) → lead h x ≡ Some y → eqb (get_or table x 0) (get_or table y 0 + cost h) ≡ fits lead table x h
  unfolding fits
  fits_to x h y e = rw e

  pub fits_yes : (x h : ℕ) → fits lead table x h ≡ true → (y : ℕ) × (lead h x ≡ Some y) × (get_or table x 0 ≡ get_or table y 0 + cost h)
  unfolding fits
  fits_yes x h e = by (lead h x) refl e
    where
      by : (r : Option ℕ) → lead h x ≡ r → fits_lead table (get_or table x 0) h r ≡ true → (y : ℕ) × (lead h x ≡ Some y) × (get_or table x 0 ≡ get_or table y 0 + cost h)
      by None p e = absurd (let z : ◌≡◌ {A = ℕ} 0 1 = cc in omega arith)
      by (Some y) p e = (y, p, eqb-true (get_or table x 0) (get_or table y 0 + cost h) e)

  pub yes_fits : (x h y : ℕ) → lead h x ≡ Some y → get_or table x 0 ≡ get_or table y 0 + cost h → fits lead table x h ≡ true
  yes_fits x h y p e = sym (fits_to x h y p) ∙ eq-eqb (get_or table x 0) (get_or table y 0 + cost h) e

  module _ (o : Ranking) where
    abbrev go : ℕ → ℕ
    go = next lead table o.at

    -- what the next heading is
    pub data Next (x : ℕ) : Type 0 where
      stop : go x ≡ 8 → ((h : ℕ) → h < 8 → fits lead table x h ≡ false) → Next x
      goes : go x < 8 → fits lead table x (go x) ≡ true → ((k : ℕ) → k < 8 → o.rank k < o.rank (go x) → fits lead table x k ≡ false) → Next x

    pub next_is : (x : ℕ) → Next x
    unfolding next
    next_is x = by (sought (fits lead table x) o.at 8 0)
      where
        off : (k : ℕ) → k < 8 → fits lead table x (o.at (o.rank k)) ≡ false → fits lead table x k ≡ false
        off k b e = ap (fits lead table x) (sym (o.at_rank k b)) ∙ e

        by : Sought (fits lead table x) o.at 8 0 (seek (fits lead table x) o.at 8 0) → Next x
        by (nothing r all) = stop r (λ h b. off h b (all (o.rank h) (omega arith) (omega (arith, o.rank_below h b))))
        by (found j a b r t all) =
            goes (subst (λ (z : ℕ). z < 8) (sym r) (o.at_below j b)) (ap (fits lead table x) r ∙ t)
            (λ k c d. off k c (all (o.rank k) (omega arith) (low k d)))
          where
            low : (k : ℕ) → o.rank k < o.rank (go x) → o.rank k < j
            low k d = let e : o.rank (go x) ≡ j = ap o.rank r ∙ o.rank_at j b in omega arith

    -- the reader comes to an end, since the numbers fall
    ends : (n x : ℕ) → get_or table x 0 ≤ n → (hs : List ℕ) × (l : Length) × Run lead table o.at x hs l
    ends zero x b = by (next_is x)
      where
        by : Next x → (hs : List ℕ) × (l : Length) × Run lead table o.at x hs l
        by (stop e all) = ([], zero_length, done e)
        by (goes p t low) = let (y, q, e) = fits_yes x (go x) t in absurd (omega (arith, cost_pos (go x)))
    ends (suc n) x b = by (next_is x) (λ y c. ends n y c)
      where
        by : Next x → ((y : ℕ) → get_or table y 0 ≤ n → (hs : List ℕ) × (l : Length) × Run lead table o.at y hs l)
            → (hs : List ℕ) × (l : Length) × Run lead table o.at x hs l
        by (stop e all) ih = ([], zero_length, done e)
        by (goes p t low) ih =
            let (y, q, e) = fits_yes x (go x) t in
            let (hs, l, r) = ih y (omega (arith, cost_pos (go x))) in
            (go x ∷ hs, l ⊕ weight (go x), more refl p q r)

    pub run_exists : (x : ℕ) → (hs : List ℕ) × (l : Length) × Run lead table o.at x hs l
    run_exists x = ends (get_or table x 0) x (le_refl (get_or table x 0))

-- what a search does at a heading
pub ruleset seeking = (seek_found, seek_goes)
