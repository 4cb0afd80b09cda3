-- The floor in the work array: its cells stand apart, and its steps are the floor's.
use mathlib.Core.Path.{◌≡◌, ap₂, sym, subst₂, ◌∙◌}
use mathlib.Core.List.{List}
use Prim.Native.Nat.{ℕ, ◌+◌, ◌*◌, ◌/◌, ◌%◌, ◌≤◌, ◌<◌}
use native.Mathlib.Omega.{arith}
use native.Mathlib.Nat.{div-add-mod', mod-lt}
use Rattle.steps.specs.Heading.{change_of}
use Rattle.steps.specs.Step.{Step}
use Rattle.steps.proofs.Grid.{Floor}
use Rattle.fill_steps.specs.inner.Work.{stride, at, spot, beside, across, WorkStep}
use Rattle.steps.proofs.Headings.{changes_of}
use Rattle.fill_steps.proofs.InWork.{also}

-- the floor f stands in the work array x
pub record Mapped (f : Floor) (x : List ℕ) : Type 0 where
  pub narrow : f.width ≤ 128
  pub free : (c r : ℕ) → f.Open c r → 0 < at x (spot c r)
  pub column : (z : ℕ) → 0 < at x z → ℕ
  pub row : (z : ℕ) → 0 < at x z → ℕ
  pub opened : (z : ℕ) (o : 0 < at x z) → f.Open (column z o) (row z o)
  pub place : (z : ℕ) (o : 0 < at x z) → z ≡ spot (column z o) (row z o)

-- two cells at one place are one
pub spot_column : (c r c' r' : ℕ) → c < stride → c' < stride → spot c r ≡ spot c' r' → c ≡ c'
spot_column c r c' r' a b e = omega arith

pub spot_row : (c r c' r' : ℕ) → c < stride → c' < stride → spot c r ≡ spot c' r' → r ≡ r'
spot_row c r c' r' a b e = omega arith

-- the place of a cell, and that no other cell has it
abbrev pub place_of : Floor → ℕ → ℕ
place_of f y = spot (y % f.width) (y / f.width)

pub narrow : (f : Floor) → 0 < f.width → f.width ≤ 128 → (y : ℕ) → y % f.width < stride
narrow f wide few y = omega (arith, mod-lt y wide)

pub same_cell : (f : Floor) → 0 < f.width → f.width ≤ 128 → (y z : ℕ) → place_of f y ≡ place_of f z → y ≡ z
same_cell f wide few y z e =
    let a = spot_column (y % f.width) (y / f.width) (z % f.width) (z / f.width) (narrow f wide few y) (narrow f wide few z) e in
    let b = spot_row (y % f.width) (y / f.width) (z % f.width) (z / f.width) (narrow f wide few y) (narrow f wide few z) e in
    sym (div-add-mod' y f.width) ∙ ap₂ (λ (u v : ℕ). u * f.width + v) b a ∙ div-add-mod' z f.width

module _ (f : Floor) (x : List ℕ) (m : Mapped f x) where
  -- the floor's steps are the work array's
  pub to_work : (h c r c' r' : ℕ) → Step f.Open h c r c' r' → WorkStep x h (spot c r) (spot c' r')
  to_work h c r c' r' s = record {
    heading = s.heading;
    place = omega (arith, s.column.sum, s.row.sum);
    from = m.free c r s.from;
    to = m.free c' r' s.to;
    side = also x (spot c r') _ (omega (arith, s.row.sum)) (m.free c r' s.side);
    other = also x (spot c' r) _ (omega (arith, s.column.sum)) (m.free c' r s.other);
  }

  -- a cell that is open in the work array is open on the floor
  pub opens : (c r : ℕ) → c < stride → 0 < at x (spot c r) → f.Open c r
  opens c r b o =
      let e = m.place (spot c r) o in
      let p = m.opened (spot c r) o in
      let in-width = f.column _ _ p in
      let n = m.narrow in
      subst₂ f.Open (sym (spot_column c r _ _ b (omega arith) e)) (sym (spot_row c r _ _ b (omega arith) e)) p

  pub from_work : (h c r c' r' : ℕ) → f.Open c r → f.Open c' r' → WorkStep x h (spot c r) (spot c' r') → Step f.Open h c r c' r'
  from_work h c r c' r' o o' s =
      let t = changes_of h s.heading in
      let n = m.narrow in
      let a = f.column c r o in
      let b = f.column c' r' o' in
      let p = s.place in
      let e : r + (change_of h).row ≡ r' + 1 = omega (arith, t.narrow) in
      let d : c + (change_of h).column ≡ c' + 1 = omega arith in
      record {
        heading = s.heading;
        column = record { sum = d };
        row = record { sum = e };
        from = o;
        to = o';
        side = opens c r' (omega arith) (also x (beside (spot c r) h) _ (omega arith) s.side);
        other = opens c' r (omega arith) (also x (across (spot c r) h) _ (omega arith) s.other);
      }
