-- What is read from the reader and handed to the writer.
use Rattle.std.specs.Prelude.{◌≡◌, Option, List, [], ℕ, ◌≤◌, ◌<◌, length, get_or}
use Rattle.std.specs.Io.KnownBytes.{Appends, Consumes, IsAtEnd}
use Rattle.print_line.specs.LineRoom.{line_room}
use Rattle.print_line.specs.Head.{Head}
use Rattle.print_plan.specs.Lines.{Heads, count_of, LineAt}
use Rattle.print_plan.specs.Shown.{joined}

-- the lines that are printed for the input, from the first on, follow what was written before; and they are all the
-- lines, if the buffer has room for any line
pub record LinesWritten (input : List ℕ) (room : ℕ) (old new : Option (List ℕ)) : Type 0 where
  pub head : Head
  pub heads : Heads input head
  pub shown : List (List ℕ)
  pub are : (i : ℕ) → i < length shown → LineAt input i (get_or shown i [])
  pub written : Appends old new (joined shown)
  pub all : line_room ≤ room → length shown ≡ count_of head

-- the lines were written for some input, which is what was read: at most so many bytes, and fewer only at the end
pub record Ran (most room : ℕ) (unread unread' written written' : Option (List ℕ)) : Type 0 where
  pub input : List ℕ
  pub read : Consumes unread unread' input
  pub few : length input ≤ most
  pub end : length input < most → IsAtEnd unread'
  pub lines : LinesWritten input room written written'
