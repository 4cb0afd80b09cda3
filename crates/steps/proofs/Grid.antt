-- The floor's steps, one statement for all headings: the two ends, and the two cells that share a side with both, are
-- open.
use mathlib.Core.Path.{◌≡◌, ap, ap₂, sym, ◌∙◌}
use Prim.Native.Nat.{ℕ, ◌+◌, ◌*◌, ◌%◌, ◌/◌, ◌<◌}
use native.Mathlib.Omega.{arith}
use native.Mathlib.Nat.{div-add-mod', mod-eq_of_lt, div-eq_of_lt, mul-le-mul_right, add-zero, mul-add-mod_self_right, mul-add-div_right}
use Rattle.steps.specs.Heading.{change_of, by_parity, weight}
use Rattle.steps.specs.Way.{Graph}
use Rattle.steps.specs.Step.{Moved, grid_steps}
use Rattle.steps.proofs.Ways.{Back}
use Rattle.steps.proofs.Headings.{opposite, changes_of}

-- a floor: its width, and which cells are open; those lie on it
pub record Floor : Type 1 where
  pub width : ℕ
  pub height : ℕ
  pub Open : ℕ → ℕ → Type 0
  pub column : (c r : ℕ) → Open c r → c < width
  pub row : (c r : ℕ) → Open c r → r < height

-- its permitted steps
abbrev pub graph : Floor → Graph
graph f = grid_steps f.width f.Open

-- a cell is its column and row
unfoldable pub cell : (f : Floor) (c r : ℕ) → ℕ
cell f c r = r * f.width + c

pub cell_column : (f : Floor) (c r : ℕ) → c < f.width → cell f c r % f.width ≡ c
unfolding cell
cell_column f c r h = mul-add-mod_self_right r f.width c ∙ mod-eq_of_lt h

pub cell_row : (f : Floor) (c r : ℕ) → c < f.width → cell f c r / f.width ≡ r
unfolding cell
cell_row f c r h =
    let p : 0 < f.width = omega arith in
    mul-add-div_right p r c ∙ ap (λ (z : ℕ). r + z) (div-eq_of_lt h) ∙ add-zero r

pub inside : (f : Floor) (h x y : ℕ) → (graph f).Step h x y → x < f.height * f.width
inside f h x y s =
    let c = f.column _ _ s.from in
    let r = f.row _ _ s.from in
    omega (arith, mul-le-mul_right f.width r, div-add-mod' x f.width)

moved_back : {a b : ℕ} (k j : ℕ) → k + j ≡ 2 → Moved k a b → Moved j b a
moved_back k j e m = omega arith

-- a step is walked back by the opposite heading, which weighs the same
pub step_back : (f : Floor) (h x y : ℕ) → (graph f).Step h x y → (graph f).Step (opposite h) y x
step_back f h x y s = record {
  heading = omega arith;
  column = moved_back (change_of h).column (change_of (opposite h)).column (changes_of h s.heading).columns s.column;
  row = moved_back (change_of h).row (change_of (opposite h)).row (changes_of h s.heading).rows s.row;
  from = s.to;
  to = s.from;
  side = s.other;
  other = s.side;
}

pub same_weight : (h : ℕ) → weight (opposite h) ≡ weight h
same_weight h = let e : opposite h % 2 ≡ h % 2 = omega arith in ap by_parity e

pub back : (f : Floor) → Back (graph f)
back f = record { reversed = opposite; back = step_back f; same = same_weight }

-- a heading leads to one cell
pub one_way : (f : Floor) (h x y z : ℕ) → (graph f).Step h x y → (graph f).Step h x z → y ≡ z
one_way f h x y z s t =
    let c : y % f.width ≡ z % f.width = omega (arith, s.column, t.column) in
    let r : y / f.width ≡ z / f.width = omega (arith, s.row, t.row) in
    sym (div-add-mod' y f.width) ∙ ap₂ (λ (a b : ℕ). a * f.width + b) r c ∙ div-add-mod' z f.width
