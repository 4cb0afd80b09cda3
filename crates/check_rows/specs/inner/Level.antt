-- The one number that stands for a cell while its table is checked. A length is its key, 13,860 for each straight and
-- 19,601 for each diagonal step, which orders lengths as they are; above every key stands the mark, and above
-- that a blocked cell.
use Rattle.std.specs.Prelude.{Bool, List, ℕ, ◌+◌, ◌-◌, ltb, eqb, get_or}
use Rattle.answers.specs.Bools.{pick, both}
use Rattle.lengths.specs.Answers.{way_part, part_above}
use Rattle.lengths.specs.inner.Keys.{key}
use Rattle.floor.specs.Floor.{Map, blocked, cell_of}
use Rattle.table_theory.specs.Entry.{Entry, mark, long, parts_of}

-- an open cell with the mark
abbrev pub none : ℕ
none = 805306368

-- a blocked cell with the mark, and a place off the floor
abbrev pub wall : ℕ
wall = 1073741824

-- what an entry says, as a number
abbrev pub key_of : Entry → ℕ
key_of mark = none
key_of (long a) = key a

-- 1 for a number that is not the mark, else 0
abbrev pub not_mark : ℕ → ℕ
not_mark v = pick (eqb v 4294967295) 0 1

-- an open cell with this entry: a malformed one stands one above the mark
unfoldable pub open_number : ℕ → ℕ
open_number v = pick (part_above way_part (parts_of v)) (none + not_mark v) (key (parts_of v))

-- a cell with this entry: a blocked one with anything but the mark stands one above the wall
unfoldable pub number_of : Bool → ℕ → ℕ
number_of shut v = pick shut (wall + not_mark v) (open_number v)

-- a column and a row that are on the floor, each counted from one further
unfoldable pub on_floor : Map → ℕ → ℕ → Bool
on_floor m column row = both (ltb 0 column) (both (ltb 0 row) (both (ltb (column - 1) m.width) (ltb (row - 1) m.height)))

-- the number of the cell there, or of a place off the floor
unfoldable pub number_at : Map → List ℕ → ℕ → ℕ → ℕ
number_at m t column row =
    pick (on_floor m column row) (number_of (blocked m (column - 1) (row - 1)) (get_or t (cell_of m (column - 1) (row - 1)) 4294967295)) wall
