-- The room around an open cell: a free rectangle that has the cell in it, that cannot be widened west or east, and
-- whose column through the cell cannot be lengthened north or south.
use mathlib.Core.Path.{◌≡◌, refl, subst}
use mathlib.Core.Logic.{◌⊎◌, inl, inr, ⊎_elim}
use mathlib.Core.Bool.{Bool, true, false}
use Prim.Native.Nat.{ℕ, ◌+◌, ◌-◌, ◌≤◌, ◌<◌}
use native.Mathlib.Omega.{arith}
use lib.Dec.{T}
use Rattle.std.proofs.lemmas.Bool.{cases_order}
use Rattle.rooms.specs.declared.Room.{Room}
use Rattle.answers.specs.Bools.{run}
use Rattle.floor.specs.Floor.{Map, open?, Open}
use Rattle.rooms.specs.Room.{top_of, bottom_of, left_of, right_of, column_open, room_of}
use Rattle.floor.proofs.Reading.{open_on}
use Rattle.rooms.proofs.Running.{AllPass, Backward, backward, back_end, Forward, forward, forth_end, part_at, part_has}

-- growth goes on in each of the four directions as far as it can
pub north : (m : Map) (column row : ℕ) → Backward (open? m column) row (top_of m column row)
unfolding top_of
north m column row = backward (open? m column) row

pub south : (m : Map) (column row : ℕ) → row < m.height → Forward (open? m column) m.height row (bottom_of m column row)
unfolding bottom_of
south m column row on = forward (open? m column) m.height row on

pub west : (m : Map) (top bottom column : ℕ) → Backward (column_open m top bottom) column (left_of m top bottom column)
unfolding left_of
west m top bottom column = backward (column_open m top bottom) column

pub east : (m : Map) (top bottom column : ℕ) → column < m.width → Forward (column_open m top bottom) m.width column (right_of m top bottom column)
unfolding right_of
east m top bottom column on = forward (column_open m top bottom) m.width column on

-- what growth has counted in each direction, as a room
pub room_is : (m : Map) (column row : ℕ) (north south west east : ℕ)
    → north ≡ run (λ i. open? m column (row - 1 - i)) row → south ≡ run (λ i. open? m column (row + 1 + i)) (m.height - 1 - row)
    → west ≡ run (λ i. column_open m (row - north) (row + south) (column - 1 - i)) column
    → east ≡ run (λ i. column_open m (row - north) (row + south) (column + 1 + i)) (m.width - 1 - column)
    → record { left = column - west; top = row - north; right = column + east; bottom = row + south } ≡ room_of m column row
unfolding top_of bottom_of left_of right_of
room_is m column row north south west east n s w e = let w' = rw (n, s) at w in let e' = rw (n, s) at e in cc

-- a cell lies in a room
pub record Inside (room : Room) (column row : ℕ) : Type 0 where
  pub west : room.left ≤ column
  pub east : column ≤ room.right
  pub north : room.top ≤ row
  pub south : row ≤ room.bottom

-- a test that holds, and one that fails
passes : (b : Bool) → T b → b ≡ true
passes true t = refl
passes false t = absurd t

fails : (b : Bool) → b ≡ false → T b → ⊥
fails b e t = subst T e t

-- what a whole column from top to bottom that is open, or is not, shows
whole : (m : Map) (top bottom column : ℕ) → column_open m top bottom column ≡ true → AllPass (open? m column) top (bottom + 1)
unfolding column_open
whole m top bottom column e = part_at (open? m column) top (bottom + 1) e

broken : (m : Map) (top bottom column : ℕ) → column_open m top bottom column ≡ false → (r : ℕ) × (top ≤ r) × (r ≤ bottom) × (Open m column r → ⊥)
unfolding column_open
broken m top bottom column e =
    let (r, p, q, f) = part_has (open? m column) top (bottom + 1) e in
    (r, p, omega arith, fails (open? m column r) f)

module _ (m : Map) (column row : ℕ) (cell : Open m column row) where
  on : (column < m.width) × (row < m.height)
  on = open_on m column row (passes (open? m column row) cell)

  -- it has the cell in it
  pub room_around : Inside (room_of m column row) column row
  room_around =
      record {
        west = (west m _ _ column).most;
        east = (east m _ _ column on.0).least;
        north = (north m column row).most;
        south = (south m column row on.1).least;
      }

  -- and lies on the floor
  pub room_on : ((room_of m column row).right < m.width) × ((room_of m column row).bottom < m.height)
  room_on = ((east m _ _ column on.0).within, (south m column row on.1).within)

  -- every cell of the column run is open
  column_run : (r : ℕ) → top_of m column row ≤ r → r ≤ bottom_of m column row → open? m column r ≡ true
  column_run r p q = by (cases_order r row)
    where
      by : (r ≡ row) ⊎ ((r < row) ⊎ (row < r)) → open? m column r ≡ true
      by (inl e) = rw e (passes (open? m column row) cell)
      by (inr (inl lt)) = (north m column row).passed r p lt
      by (inr (inr gt)) = (south m column row on.1).passed r (omega arith) (omega arith)

  -- every cell in it is open
  pub room_free : (c r : ℕ) → Inside (room_of m column row) c r → Open m c r
  room_free c r inside = rw (by (cases_order c column)) tt
    where
      by : (c ≡ column) ⊎ ((c < column) ⊎ (column < c)) → open? m c r ≡ true
      by (inl e) = rw e (column_run r inside.north inside.south)
      by (inr (inl lt)) = whole m (top_of m column row) (bottom_of m column row) c ((west m _ _ column).passed c inside.west lt) r inside.north (omega (arith, inside.south))
      by (inr (inr gt)) =
          whole m (top_of m column row) (bottom_of m column row) c
          ((east m (top_of m column row) (bottom_of m column row) column on.0).passed c (omega arith) (omega (arith, inside.east))) r inside.north (omega (arith, inside.south))

  -- there is no next column west of it, or a cell of that column is not open
  pub west_most : ((room_of m column row).left ≡ 0)
      ⊎ ((r : ℕ) × ((room_of m column row).top ≤ r) × (r ≤ (room_of m column row).bottom) × (Open m ((room_of m column row).left - 1) r → ⊥))
  west_most = ⊎_elim inl (λ e. inr (broken m _ _ _ e)) (back_end (column_open m _ _) column _ (west m _ _ column))

  pub east_most : ((room_of m column row).right + 1 ≡ m.width)
      ⊎ ((r : ℕ) × ((room_of m column row).top ≤ r) × (r ≤ (room_of m column row).bottom) × (Open m ((room_of m column row).right + 1) r → ⊥))
  east_most = ⊎_elim inl (λ e. inr (broken m _ _ _ e)) (forth_end (column_open m _ _) m.width column _ (east m _ _ column on.0))

  -- there is no next cell north of its column through the cell, or that one is not open
  pub north_most : ((room_of m column row).top ≡ 0) ⊎ (Open m column ((room_of m column row).top - 1) → ⊥)
  north_most = ⊎_elim inl (λ e. inr (fails _ e)) (back_end (open? m column) row _ (north m column row))

  pub south_most : ((room_of m column row).bottom + 1 ≡ m.height) ⊎ (Open m column ((room_of m column row).bottom + 1) → ⊥)
  south_most = ⊎_elim inl (λ e. inr (fails _ e)) (forth_end (open? m column) m.height row _ (south m column row on.1))
