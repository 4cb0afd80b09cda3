-- The window over a floor: the cell at a column of its middle row differs, by the numbers, exactly if it is not right.
-- The argument: Each place of the window has the number of its column and row (`at_place`), so what a heading offers is
-- made of the numbers of the cell where it leads and of the two beside (`offer_at`). Out of an open cell this, or the
-- mark's number if that is less, is the key of what the heading offers in entries: with a permitted step the
-- neighbour's key and the step's; without one the wall is added (`heading_offer`, once over the heading). Keys order
-- entries, so heading after heading the least number is the key of the least entry (`least_best`), and in a goal cell
-- it is 0, the key of (0, 0) (`least_made`). An open cell's number is below the wall, and tells apart the mark,
-- malformed entries and each length. So the cell does not differ exactly if its number is that key, that is if its
-- entry is well-formed and packs what its neighbours make it. A blocked cell's number is the wall or above, where the
-- least never is. So it does not differ exactly if its number is the wall, that is if its entry is the mark, and its
-- neighbours make it the mark, since no step leaves it.
use mathlib.Core.Path.{◌≡◌, refl, ap, ap₂, sym, subst₂, ◌∙◌}
use mathlib.Core.Logic.{◌⊎◌, inl, inr, ◌↔◌}
use mathlib.Core.Bool.{Bool, true, false, not, true≢false}
use mathlib.Core.List.{List}
use Prim.Native.Nat.{ℕ, zero, suc, ◌+◌, ◌*◌, ◌/◌, ◌%◌, min, ◌≤◌, ◌<◌}
use native.Mathlib.Omega.{arith}
use lib.Arith.{digits_div, digits_mod}
use lib.Dec.{eqb}
use lib.ListN.{get_or}
use borrow.Author.Tests.{lt-ltb, eq-eqb, eqb-true}
use Rattle.answers.specs.Bools.{pick, both}
use Rattle.lengths.specs.Order.{zero_length}
use Rattle.lengths.specs.inner.Keys.{key}
use Rattle.floor.specs.Floor.{Map, Open, blocked, open?, cell_of}
use Rattle.steps.specs.Heading.{change_of, weight}
use Rattle.steps.specs.inner.Leading.{open_past, permitted, lead_of}
use Rattle.steps.specs.Step.{steps_of, one_step}
use Rattle.steps.proofs.Headings.{changes_of}
use Rattle.table_theory.specs.Entry.{Entry, mark, long, entry_at}
use Rattle.table_theory.specs.Made.{Made, Right}
use Rattle.table_theory.specs.inner.Best.{offer, best, made}
use Rattle.check_rows.specs.inner.Level.{none, wall, key_of, number_of, number_at}
use Rattle.check_rows.specs.inner.Window.{at, shut_of, offered_in, offer_in, least_in, differs_in, Showing}
use Rattle.check_rows.proofs.CellNumbers.{open_low, number_placed, number_on, open_on, SmallEntry}
use Rattle.check_rows.proofs.Offering.{offer_key, best_small, best_more}
use Rattle.check_rows.proofs.Deciding.{open_right, right_open, shut_right, right_shut, Tells, floor_only, floor_made}

-- what starts at 0 stays there
least_zero : (x : List ℕ) (c k : ℕ) → least_in x c 0 k ≡ 0
unfolding least_in
least_zero x c zero = refl
least_zero x c (suc k) = omega (arith, least_zero x c k)

least_low : (x : List ℕ) (c s k : ℕ) → least_in x c s k ≤ s
unfolding least_in
least_low x c s zero = omega arith
least_low x c s (suc k) = omega (arith, least_low x c s k)

-- a number does not differ exactly if it is the least or the wall's
differs_equal : (x : List ℕ) (c s : ℕ) → differs_in x c s ≡ false → (at x 1 (c + 1) ≡ least_in x c s 8) ⊎ (at x 1 (c + 1) ≡ wall)
unfolding differs_in
differs_equal x c s e = by (eqb (at x 1 (c + 1)) (least_in x c s 8)) (eqb (at x 1 (c + 1)) wall) refl refl e
  where
    by : (a b : Bool) → eqb (at x 1 (c + 1)) (least_in x c s 8) ≡ a → eqb (at x 1 (c + 1)) wall ≡ b → both (not a) (not b) ≡ false
        → (at x 1 (c + 1) ≡ least_in x c s 8) ⊎ (at x 1 (c + 1) ≡ wall)
    by true b u v e = inl (eqb-true (at x 1 (c + 1)) _ u)
    by false true u v e = inr (eqb-true (at x 1 (c + 1)) wall v)
    by false false u v e = absurd (true≢false e)

equal_differs : (x : List ℕ) (c s : ℕ) → (at x 1 (c + 1) ≡ least_in x c s 8) ⊎ (at x 1 (c + 1) ≡ wall) → differs_in x c s ≡ false
unfolding differs_in
equal_differs x c s (inl e) = rw (eq-eqb (at x 1 (c + 1)) (least_in x c s 8) e)
equal_differs x c s (inr e) = rw (eq-eqb (at x 1 (c + 1)) wall e) (by (eqb (at x 1 (c + 1)) (least_in x c s 8)))
  where
    by : (a : Bool) → both (not a) false ≡ false
    by true = refl
    by false = refl

module _ (m : Map) (t : List ℕ) (row : ℕ) (x : List ℕ) (w : Showing m t row 3 x) where
  -- a place of the window
  at_place : (k j : ℕ) → k ≤ 2 → j < 130 → at x k j ≡ number_at m t j (row + k)
  at_place k j q p =
      let a : (k * 130 + j) % 130 ≡ j = omega arith in
      let b : (k * 130 + j) / 130 ≡ k = omega arith in
      w.numbers (k * 130 + j) (omega arith) (omega arith) ∙ ap₂ (λ (u v : ℕ). number_at m t u (row + v)) a b

  -- what a heading offers, by the numbers of the floor
  offer_at : (c h : ℕ) → c < 128 → h < 8
      → offer_in x c h ≡ number_at m t (c + (change_of h).column) (row + (change_of h).row) + key (weight h) + shut_of
      (number_at m t (c + 1) (row + (change_of h).row))
      + shut_of (number_at m t (c + (change_of h).column) (row + 1))
  unfolding offered_in
  offer_at c h p q =
      let s = changes_of h q in
      rw (
        at_place (change_of h).row (c + (change_of h).column) s.flat (omega (arith, s)),
        at_place (change_of h).row (c + 1) s.flat (omega arith),
        at_place 1 (c + (change_of h).column) (omega arith) (omega (arith, s)),
      )

  -- a column, over any goal cells that a test tells; what is least starts at 0 in a goal cell, and at the mark in any
  -- other
  module _ (c : ℕ) (wide : c < m.width) (narrow : m.width ≤ 128) (high : row < m.height) (Goal : ℕ → Type 0) (goal : ℕ → Bool)
      (tells : Tells Goal goal) (goal-open : Goal (cell_of m c row) → Open m c row) (start : ℕ) (begins : start ≡ pick (goal (cell_of m c row)) 0 none) where
    -- the cell of this column
    abbrev here : ℕ
    here = cell_of m c row

    abbrev T : ℕ → Entry
    T = entry_at t

    column : here % m.width ≡ c
    column = digits_mod row wide

    row_of : here / m.width ≡ row
    row_of = digits_div row wide

    -- one heading's offer, out of an open cell
    heading_offer : (h : ℕ) → h < 8 → open_past m (c + 1) (row + 1) ≡ true → min none (offer_in x c h) ≡ key_of (offer T (weight h) (lead_of m h here))
    unfolding lead_of permitted
    heading_offer h b o = rw (column, row_of, o, offer_at c h (omega arith) b)
        (offer_key T (weight h) (one_step (h % 2)) (open_past m (c + (change_of h).column) (row + (change_of h).row)) (open_past m (c + 1) (row + (change_of h).row))
        (open_past m (c + (change_of h).column) (row + 1)) _ _ _ _ _ refl (number_placed m t (c + (change_of h).column) (row + (change_of h).row))
        (number_placed m t (c + 1) (row + (change_of h).row)).stands (number_placed m t (c + (change_of h).column) (row + 1)).stands)

    least_best : (k : ℕ) → k ≤ 8 → open_past m (c + 1) (row + 1) ≡ true → least_in x c none k ≡ key_of (best (lead_of m) T here k)
    unfolding least_in
    least_best zero b o = refl
    least_best (suc k) b o = best_more (lead_of m) t here k _ _ (least_best k (omega arith) o) (heading_offer k (omega arith) o)

    -- what the neighbours make the cell
    abbrev made_here : Entry
    made_here = made (lead_of m) goal T 8 here

    is_made : Made (steps_of m) Goal T here made_here
    is_made = floor_made m Goal goal tells t here

    made_small : SmallEntry made_here
    made_small = by (goal here)
      where
        by : (b : Bool) → SmallEntry (pick b (long zero_length) (best (lead_of m) T here 8))
        by true = (omega arith, omega arith)
        by false = best_small (lead_of m) t here 8

    least_made : open_past m (c + 1) (row + 1) ≡ true → least_in x c start 8 ≡ key_of made_here
    least_made o = rw begins (by (goal here))
      where
        by : (b : Bool) → least_in x c (pick b 0 none) 8 ≡ key_of (pick b (long zero_length) (best (lead_of m) T here 8))
        by true = least_zero x c 8
        by false = least_best 8 (omega arith) o

    start_low : start ≤ none
    start_low = rw begins (by (goal here))
      where
        by : (b : Bool) → pick b 0 none ≤ none
        by true = omega arith
        by false = omega arith

    number_here : (b : Bool) → blocked m c row ≡ b → at x 1 (c + 1) ≡ number_of b (get_or t here 4294967295)
    number_here b e =
        at_place 1 (c + 1) (omega arith) (omega arith) ∙ number_on m t c row wide high
        ∙ ap (λ (z : Bool). number_of z (get_or t here 4294967295)) e

    -- a blocked cell is made the mark
    shut_cell : blocked m c row ≡ true → Open m c row → ⊥
    unfolding open?
    shut_cell b o = rw (lt-ltb c m.width wide, lt-ltb row m.height high, b) at o

    shut_made : blocked m c row ≡ true → Made (steps_of m) Goal T here mark
    shut_made b = record {
      at_goal = λ g. absurd (shut_cell b (goal-open g));
      elsewhere = λ g h y s. absurd (shut_cell b (subst₂ (Open m) column row_of s.from));
    }

    -- the cell's number is the least or the wall's
    abbrev Equal : Type 0
    Equal = (at x 1 (c + 1) ≡ least_in x c start 8) ⊎ (at x 1 (c + 1) ≡ wall)

    equal_right : (b : Bool) → blocked m c row ≡ b → Equal → Right (steps_of m) Goal t here
    unfolding number_of
    equal_right true b (inl e) = absurd (omega (arith, start_low, least_low x c start 8, number_here true b))
    equal_right true b (inr e) = shut_right (steps_of m) Goal t here mark (shut_made b) (floor_only m Goal goal tells t here mark (shut_made b)) refl
        (sym (number_here true b) ∙ e)
    equal_right false b (inl e) =
        open_right (steps_of m) Goal t here made_here is_made (floor_only m Goal goal tells t here made_here is_made) made_small
        (sym (number_here false b) ∙ e ∙ least_made (open_on m c row wide high ∙ ap not b))
    equal_right false b (inr e) = absurd (omega (arith, open_low (get_or t here 4294967295), number_here false b))

    right_equal : (b : Bool) → blocked m c row ≡ b → Right (steps_of m) Goal t here → Equal
    unfolding number_of
    right_equal true b r =
        inr (number_here true b ∙ right_shut (steps_of m) Goal t here mark (shut_made b) (floor_only m Goal goal tells t here mark (shut_made b)) refl r)
    right_equal false b r =
        inl
        (number_here false b
        ∙ right_open (steps_of m) Goal t here made_here is_made (floor_only m Goal goal tells t here made_here is_made) made_small r
        ∙ sym (least_made (open_on m c row wide high ∙ ap not b)))

    -- the cell does not differ exactly if it is right
    pub decided : (differs_in x c start ≡ false) ↔ Right (steps_of m) Goal t here
    decided = (
      λ e. equal_right (blocked m c row) refl (differs_equal x c start e),
      λ r. equal_differs x c start (right_equal (blocked m c row) refl r),
    )
