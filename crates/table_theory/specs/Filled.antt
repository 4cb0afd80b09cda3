-- REFERENCE, "Table": a filled table.
use Rattle.std.specs.Prelude.{◌≡◌, List, ℕ, ◌<◌, get_or, length}
use Rattle.lengths.specs.declared.Length.{Length}
use Rattle.steps.specs.Way.{Graph, Reach, Shortest}
use Rattle.table_theory.specs.Entry.{Entry, mark, long, pack}

-- what an entry says of its cell: the shortest length; or, with the mark, that there is no way, as there is none from a
-- blocked cell
abbrev pub Says : (G : Graph) (Goal : ℕ → Type 0) → ℕ → Entry → Type 0
Says G Goal x mark = (l : Length) → ¬ Reach G Goal x l
Says G Goal x (long l) = Shortest G Goal x l

-- the number at cell x says it
pub record FilledAt (G : Graph) (Goal : ℕ → Type 0) (t : List ℕ) (x : ℕ) : Type 0 where
  pub what : Entry
  pub says : Says G Goal x what
  pub same : get_or t x 4294967295 ≡ pack what

-- a filled table of n cells
pub record Filled (G : Graph) (Goal : ℕ → Type 0) (n : ℕ) (t : List ℕ) : Type 0 where
  pub size : length t ≡ n
  pub entries : (x : ℕ) → x < n → FilledAt G Goal t x
