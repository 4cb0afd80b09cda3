-- What printing into a lent buffer answers and leaves there.
use Rattle.std.specs.Prelude.{◌≡◌, List, [], ◌∷◌, ◌++◌, ℕ, ◌+◌, ◌-◌, ◌≤◌, ◌<◌, length, get_or, take}
use Rattle.print_text.specs.Put.{Put}
use Rattle.print_line.specs.LineRoom.{line_room}
use Rattle.print_line.specs.Head.{Head}
use Rattle.print_plan.specs.declared.Printed.{Printed}
use Rattle.print_plan.specs.Lines.{Heads, count_of, LineAt}

-- lines, one after the other
abbrev pub joined : List (List ℕ) → List ℕ
joined [] = []
joined (l ∷ ls) = l ++ joined ls

-- the lines from a number on, one after the other from the buffer's front, and nothing else changed: a line is
-- written while there is room for any line, and the answer has the bytes and the lines that were written and the
-- lines that are left
pub record Shown (input : List ℕ) (from : ℕ) (old : List ℕ) (r : Printed) (new : List ℕ) : Type 0 where
  pub head : Head
  pub heads : Heads input head
  pub shown : List (List ℕ)
  pub are : (i : ℕ) → i < length shown → LineAt input (from + i) (get_or shown i [])
  pub written : Put old 0 (joined shown) new r.length
  pub count : r.lines ≡ length shown
  pub rest : r.left ≡ count_of head - (from + length shown)
  pub room : (i : ℕ) → i < length shown → length (joined (take i shown)) + line_room ≤ length old
  pub full : 0 < r.left → length old < r.length + line_room
