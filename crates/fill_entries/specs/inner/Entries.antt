-- The work array's numbers as a table's entries.
use Rattle.std.specs.Prelude.{◌≡◌, List, ℕ, suc, ◌+◌, ◌-◌, ◌*◌, ◌/◌, ◌%◌, ◌≤◌, ◌<◌, length}
use Rattle.std.proofs.Math.Decide.{dec_le, ℕ_discrete}
use Rattle.lengths.specs.declared.Length.{Length}
use Rattle.lengths.specs.inner.Keys.{straight_key, key, pair}
use Rattle.table_theory.specs.Entry.{Entry, mark, long, pack}
use Rattle.fill_steps.specs.inner.Work.{unreached, stride, span, raise, highest, at, spot}

-- the key that a number stands for, one straight step and the raise more than the key of its length
abbrev pub key_of : ℕ → ℕ
key_of v = straight_key * (v / span) + v % span

-- so this one for the goal's number
abbrev pub goal_key : ℕ
goal_key = straight_key + raise

-- the entry that a number stands for: the mark for 0 and `unreached`, else the length
abbrev pub entry_by : (v : ℕ) → Dec (v ≡ 0) → Dec (v < unreached) → Entry
entry_by v (yes e) b = mark
entry_by v (no e) (yes b) = long (pair (key_of v - goal_key))
entry_by v (no e) (no b) = mark

unfoldable pub entry_of : ℕ → Entry
entry_of v = entry_by v (ℕ_discrete v 0) (dec_le (suc v) unreached)

-- a number whose remainder is a place in its band
pub record InBand (v : ℕ) : Type 0 where
  pub low : raise ≤ v % span
  pub high : v % span < raise + straight_key

-- a number that stands for a length
pub record Keyed (v : ℕ) : Type 0 where
  pub size : Length
  pub sum : key_of v ≡ goal_key + key size
  pub in_band : InBand v

-- a number that the bands can leave
pub record Settled (v : ℕ) : Type 0 where
  pub keyed : 0 < v → v < unreached → Keyed v
  pub below : v < unreached → v < highest

-- a work array of a floor of this width and height, as the bands leave it
pub record AllSettled (width height : ℕ) (x : List ℕ) : Type 0 where
  pub wide : width ≤ 128
  pub high : height ≤ 128
  pub tall : (height + 2) * stride ≤ length x
  pub all : (z : ℕ) → Settled (at x z)

-- the entry of the cell in a column and a row, and of the cell with a number, as the table has it
abbrev pub entry_in : List ℕ → (row column : ℕ) → ℕ
entry_in x row column = pack (entry_of (at x (spot column row)))

abbrev pub entry_of_cell : (width : ℕ) → List ℕ → ℕ → ℕ
entry_of_cell width x y = entry_in x (y / width) (y % width)
