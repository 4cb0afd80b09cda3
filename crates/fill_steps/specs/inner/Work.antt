-- The work array: a number for each cell of the floor and of a border of blocked cells around it. 0: blocked, or off
-- the floor. `unreached`: open, and not reached. Else the length found: with one straight step more its key is 13860 q
-- + r, r below 13860, and the number is 16384 q + r + 73. So a number's quotient by 16384 is its band and its remainder
-- is its place in the band, from 73 up to 13932. Beside it a queue of the cells that were reached. In all files x is a
-- work array, q a queue and t its end.
use Rattle.std.specs.Prelude.{◌≡◌, ℕ, zero, suc, ◌+◌, ◌-◌, ◌*◌, ◌/◌, ◌%◌, ◌<◌, ◌≤◌, List, [], ◌∷◌, length, slice_index}
use Rattle.lengths.specs.inner.Keys.{straight_key, diagonal_key}
use Rattle.steps.specs.Heading.{change_of}

-- the number of an open cell that is not reached
abbrev pub unreached : ℕ
unreached = 2147483648

-- rows are so far apart: 128 cells and the border
abbrev pub stride : ℕ
stride = 130

-- the largest work array: 128 rows and the border
abbrev pub largest : ℕ
largest = stride * stride

-- how far apart bands are, which is what a straight step adds to a number
abbrev pub span : ℕ
span = 16384

-- what is left out between the last number of a band and the first one of the next
abbrev pub gap : ℕ
gap = span - straight_key

-- by how much a diagonal step is longer than a straight one
abbrev pub extra : ℕ
extra = diagonal_key - straight_key

-- half a band
abbrev pub half : ℕ
half = 8192

-- what every remainder has more: with it, a remainder that makes 13860 or more with the extra is half a band or more
abbrev pub raise : ℕ
raise = half - (straight_key - extra)

-- the goal's number: one straight step, and the raise
abbrev pub goal_number : ℕ
goal_number = span + raise

-- 1 for a late cell, whose diagonal steps end past the next band: its remainder is half a band or more. Else 0
unfoldable pub late_of : ℕ → ℕ
late_of v = v / half % 2

-- what a straight step, with parity 0, and a diagonal one make of the number v: one band more, and the extra, and from
-- a late cell the gap
abbrev pub stepped_by : ℕ → ℕ → ℕ
stepped_by zero v = v + span
stepped_by (suc b) v = v + (span + extra + gap * late_of v)

-- what a step with heading h makes of it
unfoldable pub stepped : ℕ → ℕ → ℕ
stepped h v = stepped_by (h % 2) v

-- a bound of all numbers that are reached: no band is empty, so there are no more bands than cells
abbrev pub highest : ℕ
highest = span * (largest + 2)

-- the number at a place
abbrev pub at : List ℕ → ℕ → ℕ
at x a = slice_index x a

-- the place of the cell in column c and row r
abbrev pub spot : ℕ → ℕ → ℕ
spot c r = (r + 1) * stride + c + 1

-- a place that is not on the border
pub record OffBorder (x : List ℕ) (a : ℕ) : Type 0 where
  pub low : stride + 1 ≤ a
  pub high : a + (stride + 1) < length x

-- where heading h leads from place a, and the two cells that share a side with both
abbrev pub target : ℕ → ℕ → ℕ
target a h = a + stride * (change_of h).row + (change_of h).column - (stride + 1)

abbrev pub beside : ℕ → ℕ → ℕ
beside a h = a + stride * (change_of h).row - stride

abbrev pub across : ℕ → ℕ → ℕ
across a h = a + (change_of h).column - 1

-- heading h leads from a to b: the ends and the cells that share a side with both are open
pub record WorkStep (floor : List ℕ) (h a b : ℕ) : Type 0 where
  pub heading : h < 8
  pub place : b + (stride + 1) ≡ a + stride * (change_of h).row + (change_of h).column
  pub from : 0 < at floor a
  pub to : 0 < at floor b
  pub side : 0 < at floor (beside a h)
  pub other : 0 < at floor (across a h)

-- how many cells are open and not reached
unfoldable pub waiting : List ℕ → ℕ
waiting [] = 0
waiting (v ∷ l) = v / unreached + waiting l

-- the queue has room for all that wait, and a place more, which is written before it is known whether it counts
pub record QueueRoom (x q : List ℕ) (t : ℕ) : Type 0 where
  pub few : length x ≤ largest
  pub narrow : length q ≤ largest
  pub enough : t + waiting x < length q
