-- The window over a floor, row after row: what it shows, and that writing a row and moving down keep it.
use mathlib.Core.Path.{◌≡◌, ap, ap₂, sym, ◌∙◌}
use mathlib.Core.Logic.{◌⊎◌, inl, inr, ⊎_elim}
use mathlib.Core.List.{List}
use Prim.Native.Nat.{ℕ, suc, ◌+◌, ◌-◌, ◌*◌, ◌/◌, ◌%◌, ◌≤◌, ◌<◌}
use native.Mathlib.Omega.{arith}
use native.Mathlib.Nat.{zero-add}
use native.Mathlib.Decide.{dec_le, ℕ_discrete}
use lib.ListN.{get_or}
use Rattle.floor.specs.Floor.{Map}
use Rattle.check_rows.specs.inner.Level.{wall, number_at}
use Rattle.check_table.specs.inner.Rows.{in_row}
use Rattle.check_rows.specs.inner.Window.{Walled, Showing}
use Rattle.table_theory.specs.inner.Written.{Written}
use Rattle.check_rows.proofs.CellNumbers.{west, north, east, number_off}

module _ (m : Map) (t : List ℕ) where
  -- a place beside the floor
  beside : (c r : ℕ) → (c ≡ 0) ⊎ (m.width < c) → number_at m t c r ≡ wall
  beside c r (inl e) = number_off m t c r (west e)
  beside c r (inr e) = number_off m t c r (east e)

  pub walled_window : (x : List ℕ) → Walled x → Showing m t 0 1 x
  walled_window x w = record {
    size = w.size;
    numbers = λ z h k. let e : 0 + z / 130 ≡ 0 = omega arith in w.walls z h ∙ sym (number_off m t (z % 130) (0 + z / 130) (north e));
    border = λ z h o. w.walls z h;
  }

  -- one row more
  pub row_written : (row count from here : ℕ) (x y : List ℕ) → from ≡ count * 130 + 1 → row + count ≡ here + 1 → m.width ≤ 128
      → Showing m t row count x → Written (in_row m t here) from m.width x y → Showing m t row (count + 1) y
  row_written row count from here x y e f narrow w d = record { size = d.size ∙ w.size; numbers = numbers; border = border }
    where
      -- a place beside the floor is not written
      apart : (z : ℕ) → (z % 130 ≡ 0) ⊎ (m.width < z % 130) → Dec (z < from) → (z < from) ⊎ (from + m.width ≤ z)
      apart z o (yes p) = inl p
      apart z o (no p) = inr (⊎_elim (λ q. omega arith) (λ q. omega arith) o)

      border : (z : ℕ) → z < 390 → (z % 130 ≡ 0) ⊎ (m.width < z % 130) → get_or y z 0 ≡ wall
      border z h o = d.outside z (apart z o (dec_le (suc z) from)) ∙ w.border z h o

      edge : (z : ℕ) → z < 390 → (z % 130 ≡ 0) ⊎ (m.width < z % 130) → get_or y z 0 ≡ number_at m t (z % 130) (row + z / 130)
      edge z h o = border z h o ∙ sym (beside (z % 130) (row + z / 130) o)

      numbers : (z : ℕ) → z < 390 → z < (count + 1) * 130 → get_or y z 0 ≡ number_at m t (z % 130) (row + z / 130)
      numbers z h k = by (dec_le (suc z) (count * 130)) (ℕ_discrete (z % 130) 0) (dec_le (suc m.width) (z % 130))
        where
          by : Dec (z < count * 130) → Dec (z % 130 ≡ 0) → Dec (m.width < z % 130) → get_or y z 0 ≡ number_at m t (z % 130) (row + z / 130)
          by (yes p) a b = d.outside z (inl (omega arith)) ∙ w.numbers z h p
          by (no p) (yes a) b = edge z h (inl a)
          by (no p) (no a) (yes b) = edge z h (inr b)
          by (no p) (no a) (no b) =
              let i : z ≡ from + (z % 130 - 1) = omega arith in
              let c : z % 130 - 1 + 1 ≡ z % 130 = omega arith in
              let r : here + 1 ≡ row + z / 130 = omega arith in
              ap (λ (n : ℕ). get_or y n 0) i ∙ d.inside (z % 130 - 1) (omega arith) ∙ ap₂ (number_at m t) c r

  -- one row down
  pub moved_down : (row : ℕ) (x y : List ℕ) → Showing m t row 3 x → Written (λ z. get_or x (z + 130) 0) 0 260 x y → Showing m t (row + 1) 2 y
  moved_down row x y w d = record { size = d.size ∙ w.size; numbers = numbers; border = λ z h o. border z h o (dec_le 260 z) }
    where
      numbers : (z : ℕ) → z < 390 → z < 2 * 130 → get_or y z 0 ≡ number_at m t (z % 130) (row + 1 + z / 130)
      numbers z h k =
          let c : (z + 130) % 130 ≡ z % 130 = omega arith in
          let r : row + (z + 130) / 130 ≡ row + 1 + z / 130 = omega arith in
          ap (λ (n : ℕ). get_or y n 0) (sym (zero-add z)) ∙ d.inside z (omega arith) ∙ w.numbers (z + 130) (omega arith) (omega arith) ∙ ap₂ (number_at m t) c r

      border : (z : ℕ) → z < 390 → (z % 130 ≡ 0) ⊎ (m.width < z % 130) → Dec (260 ≤ z) → get_or y z 0 ≡ wall
      border z h o (yes p) = d.outside z (inr (omega arith)) ∙ w.border z h o
      border z h o (no p) = numbers z h (omega arith) ∙ beside (z % 130) (row + 1 + z / 130) o
