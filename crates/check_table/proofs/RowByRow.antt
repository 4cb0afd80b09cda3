-- Row after row: what is known where a row is about to be judged, and what each way out of the loop over the rows
-- shows.
use mathlib.Core.Path.{◌≡◌, refl, ap, sym, subst, subst₂, ◌∙◌}
use mathlib.Core.Logic.{◌↔◌}
use mathlib.Core.Bool.{false}
use mathlib.Core.List.{List}
use Prim.Native.Nat.{ℕ, ◌+◌, ◌-◌, ◌*◌, ◌/◌, ◌%◌, ◌≤◌, ◌<◌}
use native.Mathlib.Omega.{arith}
use native.Mathlib.Decide.{dec_le}
use lib.Arith.{digits_lt, digits_div, digits_mod}
use lib.Dec.{eqb}
use lib.ListN.{get_or}
use Rattle.std.specs.Prelude.{Some, None}
use Rattle.floor.specs.Floor.{Map, Open, cell_of, cells}
use Rattle.floor.specs.inner.Ready.{SoundFloor, OpenCell}
use Rattle.steps.specs.Step.{steps_of}
use Rattle.steps.specs.Way.{Only}
use Rattle.table_theory.specs.Made.{Right}
use Rattle.table_theory.specs.inner.First.{FirstWrong}
use Rattle.table_theory.specs.inner.Written.{Written}
use Rattle.check_rows.specs.inner.Window.{Walled, Showing, start_of, differs_at}
use Rattle.check_rows.proofs.OneMore.{all_judged}
use Rattle.check_rows.proofs.Deciding.{tells_only}
use Rattle.check_rows.proofs.InWindow.{decided}
use Rattle.check_table.specs.inner.Rows.{in_row}
use Rattle.check_table.proofs.Windows.{walled_window, row_written, moved_down}

-- what is known where a row is about to be judged
pub record BeforeRow (m : Map) (t : List ℕ) (goal row : ℕ) (x : List ℕ) : Type 0 where
  -- the window shows the row above and the row
  pub window : Showing m t row 2 x
  -- the cells of the rows above are right
  pub right : (y : ℕ) → y < row * m.width → Right (steps_of m) (Only goal) t y

module _ (m : Map) (t : List ℕ) (goal : ℕ) (sound : SoundFloor m) (chosen : OpenCell m goal) where
  pub going_first : (x y : List ℕ) → Walled x → Written (in_row m t 0) 131 m.width x y → BeforeRow m t goal 0 y
  going_first x y w d = record {
    window = row_written m t 0 1 131 0 x y refl refl sound.wide (walled_window m t x w) d;
    right = λ z h. absurd (omega arith);
  }

  module _ (row : ℕ) (x y : List ℕ) (high : row < m.height) (going : BeforeRow m t goal row x)
      (next : Written (in_row m t (row + 1)) 261 m.width x y) where
    -- the window with the next row
    whole : Showing m t row 3 y
    whole = row_written m t row 2 261 (row + 1) x y refl (omega arith) sound.wide going.window next

    free : (i : ℕ) → i < m.width → cell_of m i row ≡ goal → Open m i row
    free i k e = subst₂ (Open m) (ap (λ (z : ℕ). z % m.width) (sym e) ∙ digits_mod row k)
        (ap (λ (z : ℕ). z / m.width) (sym e) ∙ digits_div row k) chosen.free

    -- a column does not differ exactly if its cell is right
    decides : (i : ℕ) → i < m.width → (differs_at y goal (row * m.width) i ≡ false) ↔ Right (steps_of m) (Only goal) t (cell_of m i row)
    decides i k = decided m t row y whole i k sound.wide high (Only goal) (λ z. eqb z goal) (tells_only goal) (free i k) (start_of goal (cell_of m i row)) refl

    -- the cells before a column that are as their neighbours make them are right
    before : (c : ℕ) → c ≤ m.width → ((i : ℕ) → i < c → differs_at y goal (row * m.width) i ≡ false)
        → (z : ℕ) → z < row * m.width + c → Right (steps_of m) (Only goal) t z
    before c w all z h = by (dec_le (row * m.width) z)
      where
        by : Dec (row * m.width ≤ z) → Right (steps_of m) (Only goal) t z
        by (no p) = going.right z (omega arith)
        by (yes p) =
            let e : row * m.width + (z - row * m.width) ≡ z = omega arith in
            subst (Right (steps_of m) (Only goal) t) e ((decides (z - row * m.width) (omega arith)).0 (all (z - row * m.width) (omega arith)))

    -- a cell was found
    pub found : (c : ℕ) → FirstWrong (λ i. differs_at y goal (row * m.width) i ≡ false) m.width (Some c)
        → FirstWrong (Right (steps_of m) (Only goal) t) (cells m) (Some (row * m.width + c))
    found c f = (
      omega (arith, digits_lt high f.0),
      record {
        within = omega (arith, digits_lt high f.0);
        before = before c (omega arith) f.1.before;
        wrong = λ h r. f.1.wrong f.0 ((decides c f.0).1 r);
      },
    )

    -- none was found, and the window went down
    pub went_on : (z : List ℕ) → FirstWrong (λ i. differs_at y goal (row * m.width) i ≡ false) m.width None
        → Written (λ i. get_or y (i + 130) 0) 0 260 y z → BeforeRow m t goal (row + 1) z
    went_on z f d = record {
      window = moved_down m t row y z whole d;
      right = λ i h. before m.width (omega arith) f.before i (omega arith);
    }

  -- all rows were judged
  pub all_rows : (x : List ℕ) → BeforeRow m t goal m.height x → FirstWrong (Right (steps_of m) (Only goal) t) (cells m) None
  all_rows x going = all_judged (Right (steps_of m) (Only goal) t) (cells m) going.right
