-- Permitted steps: what an open cell counted from one further shows, where a permitted step ends, and where a heading
-- leads by it.
use mathlib.Core.Path.{◌≡◌, sym, ◌∙◌, subst}
use mathlib.Core.Bool.{Bool, true, false}
use Prim.Native.Nat.{ℕ, ◌+◌, ◌-◌, ◌*◌, ◌/◌, ◌%◌, ◌≤◌, ◌<◌}
use native.Mathlib.Nat.{div-lt_iff_lt-mul, mod-lt}
use native.Mathlib.Omega.{arith}
use lib.Dec.{T}
use Rattle.steps.specs.declared.heading.Change.{Change}
use Rattle.std.specs.Prelude.{Some, None}
use Rattle.floor.specs.Floor.{Map, cells}
use Rattle.steps.specs.Heading.{change_of}
use Rattle.floor.specs.inner.Ready.{SoundFloor}
use Rattle.steps.specs.inner.Leading.{permitted, lead_of}
use Rattle.steps.proofs.Leads.{four, open_column, open_row}

-- column and row of a cell on the floor
pub place : (m : Map) → SoundFloor m → (x : ℕ) → x < cells m → (x % m.width < m.width) × (x / m.width < m.height)
place m sound x h = (mod-lt x sound.some_wide, (div-lt_iff_lt-mul sound.some_wide).1 h)

-- a permitted step ends at an open cell, which lies on the floor
pub record StepEnds (m : Map) (column row : ℕ) : Type 0 where
  pub some_column : 1 ≤ column
  pub some_row : 1 ≤ row
  pub column_on : column ≤ m.width
  pub row_on : row ≤ m.height

step_end : (m : Map) (across down column row : ℕ) → permitted m across down column row ≡ true → StepEnds m (column + across) (row + down)
step_end m across down column row e =
    let p = (four m across down column row (subst T (sym e) tt)).to in
    let c = open_column m _ _ p.«open» in
    let r = open_row m _ _ p.«open» in
    record { some_column = p.column; some_row = p.row; column_on = omega arith; row_on = omega arith }

-- where a heading leads, by the answer to whether its step is permitted
module _ (m : Map) (h x : ℕ) (d : Change) (is : d ≡ change_of h) (t : Bool) (may : t ≡ permitted m d.column d.row (x % m.width) (x / m.width)) where
  pub leads_nowhere : t ≡ false → None ≡ lead_of m h x
  unfolding lead_of
  leads_nowhere e = rw (← is, ← may, e)

  pub leads_to : t ≡ true → Some ((x / m.width + d.row - 1) * m.width + (x % m.width + d.column - 1)) ≡ lead_of m h x
  unfolding lead_of
  leads_to e = rw (← is, ← may, e)

  pub leads_end : t ≡ true → StepEnds m (x % m.width + d.column) (x / m.width + d.row)
  leads_end e = step_end m d.column d.row (x % m.width) (x / m.width) (sym may ∙ e)
