-- REFERENCE, "Numbers given back": the condition of each of 1 to 8.
use Rattle.std.specs.Prelude.{Bool, not, ℕ, ◌+◌, ◌-◌, ◌*◌, ltb, eqb, length}
use Rattle.answers.specs.Bools.{either, both, some_below}
use Rattle.floor.specs.Floor.{Map, bytes_per_row, blocked, open?, Spot}

-- 1: a side that is 0 or above the limit
unfoldable pub sides_outside : (limit width height : ℕ) → Bool
sides_outside limit width height = either (either (ltb width 1) (ltb limit width)) (either (ltb height 1) (ltb limit height))

-- 2: the map has not the bytes of its rows
unfoldable pub wrong_length : Map → Bool
wrong_length m = not (eqb (length m.bytes) (m.height * bytes_per_row m.width))

-- 3: some row has a set bit that stands for no cell
unfoldable pub past_width : Map → Bool
past_width m = some_below (λ row. some_below (λ k. blocked m (m.width + k) row) (8 * bytes_per_row m.width - m.width)) m.height

-- 4: not one entry for each cell
unfoldable pub wrong_table : (width height entries : ℕ) → Bool
wrong_table width height entries = not (eqb entries (height * width))

-- 5, 6: off the floor
unfoldable pub off_floor : (width height : ℕ) → Spot → Bool
off_floor width height s = not (both (ltb s.column width) (ltb s.row height))

-- 7, 8: not open; 5 or 6 stands before them in every list, so that this is blocked
abbrev pub closed : Map → Spot → Bool
closed m s = not (open? m s.column s.row)
