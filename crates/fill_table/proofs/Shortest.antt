-- What the bands leave is what the neighbours make each cell, and so the shortest lengths. A number that was found
-- stands for a length, since its support does and a step adds its key; that no step would lower a number says, by the
-- keys that numbers stand for and in whose order they are, that no neighbour offers less.
use mathlib.Core.Path.{◌≡◌, ap, ap₂, sym, subst, subst₂, ◌∙◌}
use mathlib.Core.Logic.{◌⊎◌, inl, inr}
use mathlib.Core.List.{List}
use Prim.Native.Nat.{ℕ, zero, suc, ◌+◌, ◌-◌, ◌/◌, ◌%◌, ◌≤◌, ◌<◌}
use native.Mathlib.Omega.{arith}
use native.Mathlib.Nat.{le_refl}
use Rattle.lengths.specs.declared.Length.{Length}
use Rattle.lengths.specs.Order.{zero_length, ◌⊕◌, ◌⊑◌}
use Rattle.lengths.specs.inner.Keys.{straight_key, diagonal_key, key, pair}
use Rattle.lengths.proofs.Keys.{key_order, pair_back}
use Rattle.steps.specs.Heading.{weight}
use Rattle.steps.proofs.Grid.{Floor, graph, step_back, same_weight, cell, cell_column, cell_row}
use Rattle.steps.proofs.Headings.{opposite}
use Rattle.table_theory.specs.Entry.{Entry, mark, long}
use Rattle.table_theory.specs.Filled.{Says}
use Rattle.table_theory.specs.Made.{Least, Made}
use Rattle.table_theory.proofs.Neighbours.{no_mark, long_inj, sound}
use Rattle.fill_steps.specs.inner.Work.{unreached, goal_number, stepped, at, spot, WorkStep}
use Rattle.fill_bands.specs.inner.Solved.{ReachedBy, Solved}
use Rattle.fill_entries.specs.inner.Entries.{key_of, goal_key, entry_of, InBand, Keyed}
use Rattle.fill_entries.proofs.NumberKinds.{NumberKind, shut, waits, reached, kind}
use Rattle.fill_steps.proofs.Numbers.{like, stretch}
use Rattle.fill_table.proofs.Adds.{steps_add, key_monotone}
use Rattle.fill_table.proofs.OnWork.{Mapped, place_of, narrow, to_work, from_work, opens}

module _ (floor x : List ℕ) (s : Solved floor x) where
  -- each number that was found stands for a length: that of the cell it was found from, and the step
  keyed_below : (n z : ℕ) → at x z ≤ n → 0 < at x z → at x z < unreached → Keyed (at x z)
  keyed_below zero z b o f = absurd (omega arith)
  keyed_below (suc n) z b o f = by (s.support z o f) (keyed_below n)
    where
      by : (at floor z ≡ goal_number) ⊎ ReachedBy floor x z (at x z) → ((y : ℕ) → at x y ≤ n → 0 < at x y → at x y < unreached → Keyed (at x y)) → Keyed (at x z)
      by (inl e) ih =
          let start = s.start z e in
          record { size = zero_length; sum = ap key_of start; in_band = record { low = omega arith; high = omega arith } }
      by (inr u) ih =
          let k = ih u.cell (omega (arith, u.sum, stretch u.heading (at x u.cell))) (s.free u.cell u.step.from) u.found in
          let add = steps_add u.heading (at x u.cell) in
          record {
            size = k.size ⊕ weight u.heading;
            sum = ap key_of u.sum ∙ add.sum ∙ ap (λ (n : ℕ). n + key (weight u.heading)) k.sum ∙ omega arith;
            in_band = subst InBand (sym u.sum) (add.in_band k.in_band);
          }

  pub keyed : (z : ℕ) → 0 < at x z → at x z < unreached → Keyed (at x z)
  keyed z = keyed_below (at x z) z (le_refl (at x z))

  -- its parts are small, and it is read from the number
  few : (z : ℕ) (f : at x z < unreached) (l : Length) → key_of (at x z) ≡ goal_key + key l
      → (l.straight < diagonal_key) × (l.diagonal < straight_key)
  few z f l e = (omega (arith, s.below z f), omega (arith, s.below z f))

  read : (z : ℕ) (f : at x z < unreached) (l : Length) → key_of (at x z) ≡ goal_key + key l → pair (key_of (at x z) - goal_key) ≡ l
  read z f l e =
      let k : key_of (at x z) - goal_key ≡ key l = omega arith in
      ap pair k ∙ pair_back l (few z f l e).1

-- the goal's cells, any that can be told from the others, have the goal's number, and they alone
pub record GoalNumbers (f : Floor) (floor : List ℕ) (Goal : ℕ → Type 0) : Type 0 where
  pub told : (y : ℕ) → Dec (Goal y)
  pub has : (y : ℕ) → Goal y → at floor (place_of f y) ≡ goal_number
  pub alone : (y : ℕ) → at floor (place_of f y) ≡ goal_number → Goal y

module _ (f : Floor) (wide : 0 < f.width) (floor x : List ℕ) (m : Mapped f floor) (Goal : ℕ → Type 0) (goals : GoalNumbers f floor Goal)
    (s : Solved floor x) where
  abbrev place : ℕ → ℕ
  place = place_of f

  abbrev T : ℕ → Entry
  T y = entry_of (at x (place y))

  at_goal : (y : ℕ) → Goal y → T y ≡ long zero_length
  at_goal y e = ap entry_of (s.start (place y) (goals.has y e)) ∙ by (kind goal_number)
    where
      by : NumberKind goal_number → entry_of goal_number ≡ long zero_length
      by (shut e p) = absurd (omega arith)
      by (waits e p) = absurd (omega arith)
      by (reached o k p) = p

  -- a permitted step is a step of the work array, both ways
  there : (h y z : ℕ) → (graph f).Step h y z → WorkStep floor h (place y) (place z)
  there h y z u = to_work f floor m h _ _ _ _ u

  -- over a step from y to z, y is not above z and the step
  over : (h y z : ℕ) → (graph f).Step h y z → at x (place z) < unreached → at x (place y) ≤ stepped h (at x (place z))
  over h y z u k =
      let parity : h % 2 ≡ opposite h % 2 = omega arith in
      let again = there (opposite h) z y (step_back f h y z u) in
      omega (arith, s.relaxed (opposite h) (place z) (place y) again k, like h (opposite h) (at x (place z)) parity)

  marks : (y : ℕ) → (at x (place y) ≡ 0) ⊎ (unreached ≤ at x (place y)) → Least (graph f) T y mark
  marks y v h z u = by (kind (at x (place z))) v
    where
      by : NumberKind (at x (place z)) → (at x (place y) ≡ 0) ⊎ (unreached ≤ at x (place y)) → T z ≡ mark
      by (shut e p) v = p
      by (waits e p) v = p
      by (reached o k p) (inl e) = absurd (omega (arith, s.free (place y) (there h y z u).from))
      by (reached o k p) (inr e) = absurd (omega (arith, over h y z u k, s.below (place z) k, stretch h (at x (place z))))

  lengths : (y : ℕ) → ¬ Goal y → 0 < at x (place y) → at x (place y) < unreached
      → Least (graph f) T y (long (pair (key_of (at x (place y)) - goal_key)))
  lengths y other o k = (some (s.support (place y) o k), all)
    where
      some : (at floor (place y) ≡ goal_number) ⊎ ReachedBy floor x (place y) (at x (place y))
          → (h : ℕ) × (z : ℕ) × (n : Length) × (graph f).Step h y z × (T z ≡ long n) × (pair (key_of (at x (place y)) - goal_key) ≡ n ⊕ weight h)
      some (inl e) = absurd (other (goals.alone y e))
      some (inr u) =
          let from = u.step.from in
          let c = m.column u.cell from in
          let r = m.row u.cell from in
          let p = m.opened u.cell from in
          let in-width = f.column c r p in
          let z = cell f c r in
          let zc = cell_column f c r in-width in
          let zr = cell_row f c r in-width in
          let at-z : place z ≡ u.cell = ap₂ spot zc zr ∙ sym (m.place u.cell from) in
          let o' = opens f floor m (y % f.width) (y / f.width) (narrow f wide m.narrow y) u.step.to in
          let p' : f.Open (z % f.width) (z / f.width) = subst₂ f.Open (sym zc) (sym zr) p in
          let st = subst (λ (i : ℕ). WorkStep floor u.heading i (place y)) (sym at-z) u.step in
          let go = step_back f u.heading z y (from_work f floor m u.heading _ _ _ _ p' o' st) in
          let same : at x (place z) ≡ at x u.cell = ap (at x) at-z in
          let free = s.free u.cell from in
          let kz = keyed floor x s (place z) (omega arith) (omega (arith, u.found)) in
          let n = kz.size in
          let e = same_weight u.heading in
          let entry-z = reads z (omega arith) (omega (arith, u.found)) n kz.sum in
          let found = ap key_of (u.sum ∙ ap (stepped u.heading) (sym same)) ∙ (steps_add u.heading (at x (place z))).sum in
          let sum : key_of (at x (place y)) ≡ goal_key + key (n ⊕ weight u.heading) =
          found ∙ ap (λ (v : ℕ). v + key (weight u.heading)) kz.sum ∙ omega arith in
          let read-y = read floor x s (place y) k (n ⊕ weight u.heading) sum in
          (opposite u.heading, z, n, go, entry-z, read-y ∙ ap (λ (d : Length). n ⊕ d) (sym e))
        where
          reads : (z : ℕ) → 0 < at x (place z) → at x (place z) < unreached → (n : Length) → key_of (at x (place z)) ≡ goal_key + key n
              → T z ≡ long n
          reads z o k n e = by (kind (at x (place z)))
            where
              by : NumberKind (at x (place z)) → T z ≡ long n
              by (shut d p) = absurd (omega arith)
              by (waits d p) = absurd (omega arith)
              by (reached d b p) = p ∙ ap long (read floor x s (place z) k n e)

      all : (h z : ℕ) (n : Length) → (graph f).Step h y z → T z ≡ long n → pair (key_of (at x (place y)) - goal_key) ⊑ n ⊕ weight h
      all h z n u e = by (kind (at x (place z)))
        where
          by : NumberKind (at x (place z)) → pair (key_of (at x (place y)) - goal_key) ⊑ n ⊕ weight h
          by (shut d p) = absurd (no_mark (sym e ∙ p))
          by (waits d p) = absurd (no_mark (sym e ∙ p))
          by (reached d b p) =
              let ky = keyed floor x s (place y) o k in
              let kz = keyed floor x s (place z) d b in
              let add = steps_add h (at x (place z)) in
              let same : n ≡ kz.size = long_inj (sym e ∙ p) ∙ read floor x s (place z) b kz.size kz.sum in
              subst₂ ◌⊑◌ (sym (read floor x s (place y) k ky.size ky.sum)) (ap (λ (d : Length). d ⊕ weight h) (sym same))
              (key_order ky.size (kz.size ⊕ weight h) (few floor x s (place y) k ky.size ky.sum).0
              (omega (arith, key_monotone _ _ ky.in_band (add.in_band kz.in_band) (over h y z u b), add.sum, ky.sum, kz.sum)))

  made : (y : ℕ) → Made (graph f) Goal T y (T y)
  made y = record { at_goal = at_goal y; elsewhere = λ other. by other (kind (at x (place y))) }
    where
      by : ¬ Goal y → NumberKind (at x (place y)) → Least (graph f) T y (T y)
      by other (shut e p) = subst (Least (graph f) T y) (sym p) (marks y (inl e))
      by other (waits e p) = subst (Least (graph f) T y) (sym p) (marks y (inr e))
      by other (reached o k p) = subst (Least (graph f) T y) (sym p) (lengths y other o k)

  pub says : (y : ℕ) → Says (graph f) Goal y (T y)
  says = sound (graph f) Goal goals.told T made
