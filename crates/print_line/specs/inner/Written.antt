-- What the parts of a line leave in the buffer.
use Rattle.std.specs.Prelude.{List, [], ◌∷◌, ℕ, ◌+◌, ◌*◌, ◌≤◌, length, take, Result, Ok, Err}
use Rattle.answers.specs.declared.Refusal.{Refusal}
use Rattle.lengths.specs.Distance.{Spoken}
use Rattle.lengths.specs.inner.AtMost.{Within}
use Rattle.route_legs.specs.declared.Way.{Way}
use Rattle.answers.specs.Numbers.{number_of}
use Rattle.print_text.specs.Text.{line}
use Rattle.print_text.specs.declared.Page.{Page}
use Rattle.print_text.specs.inner.Page.{Wrote}
use Rattle.print_line.specs.LineRoom.{line_room}

-- a line was written, in the room for one
pub record PutLine (old : Page) (bytes : List ℕ) (new : Page) : Type 0 where
  pub wrote : Wrote old bytes new
  pub fits : new.at ≤ old.at + line_room

-- some line that is one of these was written
pub record Writes (Is : List ℕ → Type 0) (old new : Page) : Type 0 where
  pub bytes : List ℕ
  pub is : Is bytes
  pub line_put : PutLine old bytes new

-- a way whose line there is room for
pub record WayFits (w : Way) (legs : List ℕ) : Type 0 where
  pub within : Within w.length
  pub few : w.legs ≤ 16383
  pub there : 2 * w.legs ≤ length legs

-- an answer whose line there is room for
abbrev pub Fits : Result Way Refusal → List ℕ → Type 0
Fits (Ok w) legs = WayFits w legs
Fits (Err r) legs = Unit {0}

-- the numbers of a way's line
abbrev pub way_numbers : ℕ → ℕ → Way → List ℕ → List ℕ
way_numbers number centimetres w legs =
    number ∷ 0 ∷ w.length.straight ∷ w.length.diagonal ∷ centimetres ∷ w.legs ∷ take (2 * w.legs) legs

-- the line of an answer
pub data AnswerLine (size number : ℕ) (legs : List ℕ) : Result Way Refusal → List ℕ → Type 0 where
  way : (w : Way) (centimetres : ℕ) → Spoken size w.length centimetres
      → AnswerLine size number legs (Ok w) (line (way_numbers number centimetres w legs))
  refused : (f : Refusal) → AnswerLine size number legs (Err f) (line (number ∷ number_of f ∷ []))
