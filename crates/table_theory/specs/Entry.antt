-- REFERENCE, "Table": an entry, and the 32-bit number that it is packed into.
use Rattle.std.specs.Prelude.{Bool, not, List, ℕ, ◌+◌, ◌*◌, ◌/◌, ◌%◌, eqb, get_or}
use Rattle.answers.specs.Bools.{pick, both}
use Rattle.lengths.specs.declared.Length.{Length}
use Rattle.lengths.specs.Answers.{way_part, part_above}

-- what an entry says: the mark, or how long a way is
pub data Entry : Type 0 where
  mark : Entry
  long : Length → Entry

-- straight × 65,536 + diagonal; the mark is 4,294,967,295
abbrev pub pack : Entry → ℕ
pack mark = 4294967295
pack (long a) = a.straight * 65536 + a.diagonal

-- the two parts of a number
abbrev pub parts_of : ℕ → Length
parts_of v = record { straight = v / 65536; diagonal = v % 65536 }

-- malformed: no mark, and yet a part that no shortest way has
abbrev pub malformed : ℕ → Bool
malformed v = both (not (eqb v 4294967295)) (part_above way_part (parts_of v))

-- what a number says to its neighbours: a length, or, as the mark and a malformed entry are left out, nothing
unfoldable pub read : ℕ → Entry
read v = pick (part_above way_part (parts_of v)) mark (long (parts_of v))

-- the entry of a cell
abbrev pub entry_at : List ℕ → ℕ → Entry
entry_at t x = read (get_or t x 4294967295)
