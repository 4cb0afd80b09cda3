-- On a floor with sides of at most 128 no run of one heading is longer than 127: each of its steps changes the column
-- by one, or the row by one, always the same way.
use Rattle.std.proofs.Common.{◌≡◌, ℕ, zero, suc, ◌+◌, ◌/◌, ◌%◌, ◌<◌, ◌≤◌, List, arith}
use native.Mathlib.Decide.{ℕ_discrete}
use Rattle.lengths.specs.declared.Length.{Length}
use Rattle.steps.specs.Heading.{change_of}
use Rattle.steps.specs.Step.{Moved}
use Rattle.steps.proofs.Grid.{Floor, graph}
use Rattle.steps.proofs.Headings.{Changes, changes_of, row_moves}
use Rattle.route_walker.specs.Route as walk
use Rattle.route_walker.specs.Route.{Walk}
use Rattle.route_walker.specs.Legs.{again}

-- n changes by one less than k lead from a to b
record Drift (k a b n : ℕ) : Type 0 where
  back : k ≡ 0 → a ≡ b + n
  on : k ≡ 2 → b ≡ a + n

drift_none : (k a : ℕ) → Drift k a a 0
drift_none k a = record { back = λ e. omega arith; on = λ e. omega arith }

drift_more : {k a b c : ℕ} (n : ℕ) → Moved k a b → Drift k b c n → Drift k a c (suc n)
drift_more n s d = record { back = λ e. let q = d.back e in omega (arith, s.sum); on = λ e. let q = d.on e in omega (arith, s.sum) }

module _ (f : Floor) (wide : f.width ≤ 128) (high : f.height ≤ 128) where
  -- n steps by the heading h lead from x to z, which lies on the floor
  record Drifted (h x z n : ℕ) : Type 0 where
    column : Drift (change_of h).column (x % f.width) (z % f.width) n
    row : Drift (change_of h).row (x / f.width) (z / f.width) n
    in_column : z % f.width < f.width
    in_row : z / f.width < f.height

  drifts : (n h : ℕ) (hs : List ℕ) {x y : ℕ} {l : Length} → x % f.width < f.width → x / f.width < f.height → Walk (graph f) x y (again n h hs) l
      → (z : ℕ) × Drifted h x z n
  drifts zero h hs {x} a b w = (x, record { column = drift_none _ _; row = drift_none _ _; in_column = a; in_row = b })
  drifts (suc n) h hs a b (walk.step s w) =
      let (z, o) = drifts n h hs (f.column _ _ s.to) (f.row _ _ s.to) w in
      (z, record { column = drift_more n s.column o.column; row = drift_more n s.row o.row; in_column = o.in_column; in_row = o.in_row })

  few : (h x z n : ℕ) → x % f.width < f.width → x / f.width < f.height → Changes h → Drifted h x z n → n ≤ 127
  few h x z n a b c o = by (ℕ_discrete (change_of h).column 0) (ℕ_discrete (change_of h).column 2) (ℕ_discrete (change_of h).row 0)
    where
      by : Dec ((change_of h).column ≡ 0) → Dec ((change_of h).column ≡ 2) → Dec ((change_of h).row ≡ 0) → n ≤ 127
      by (yes e) q r = omega (arith, o.column.back e)
      by (no p) (yes e) r = omega (arith, o.column.on e, o.in_column)
      by (no p) (no q) (yes e) = omega (arith, o.row.back e)
      by (no p) (no q) (no r) = omega (arith, o.row.on (row_moves h c (omega (arith, c.narrow)) r), o.in_row)

  pub run_short : (n h : ℕ) (hs : List ℕ) {x y : ℕ} {l : Length} → Walk (graph f) x y (again n h hs) l → n ≤ 127
  run_short zero h hs w = omega arith
  run_short (suc n) h hs {x} (walk.step s w) =
      let a = f.column _ _ s.from in
      let b = f.row _ _ s.from in
      let (z, o) = drifts (suc n) h hs a b (walk.step s w) in
      few h x z (suc n) a b (changes_of h s.heading) o
