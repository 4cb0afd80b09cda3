-- What the parts of printing answer and leave in the buffer.
use Rattle.std.specs.Prelude.{◌≡◌, List, [], ℕ, ◌+◌, ◌≤◌, ◌<◌, length, get_or, take, Ok}
use Rattle.answers.specs.Refusing.{first_refusal}
use Rattle.floor.specs.Floor.{Map}
use Rattle.plan.specs.declared.Plan.{Plan}
use Rattle.plan.specs.declared.Query.{Query}
use Rattle.plan.specs.Sound.{Contents, Sound}
use Rattle.plan.specs.Reads.{plan_of}
use Rattle.print_text.specs.Text.{line}
use Rattle.print_text.specs.declared.Page.{Page}
use Rattle.print_text.specs.inner.Page.{Wrote}
use Rattle.print_line.specs.LineRoom.{line_room}
use Rattle.print_plan.specs.Query.{QueryNumbers}
use Rattle.print_plan.specs.Lines.{map_in, plan_tests, LineAt}
use Rattle.print_plan.specs.Shown.{joined}

-- the line of a query
pub data QueryLine (m : Map) (size number : ℕ) (q : Query) : List ℕ → Type 0 where
  numbers : (ns : List ℕ) → QueryNumbers m size number q ns → QueryLine m size number q (line ns)

-- a sound plan that is not too long
pub record Taken (input : List ℕ) (p : Plan) : Type 0 where
  pub contents : Contents
  pub small : length input ≤ 4096
  pub sound : Sound input contents
  pub plan : p ≡ plan_of contents

-- the lines from a number on up to the next one, written from the start of a page
pub record Progress (input : List ℕ) (from : ℕ) (start page : Page) (next : ℕ) : Type 0 where
  pub shown : List (List ℕ)
  pub are : (i : ℕ) → i < length shown → LineAt input (from + i) (get_or shown i [])
  pub wrote : Wrote start (joined shown) page
  pub upto : next ≡ from + length shown
  pub room : (i : ℕ) → i < length shown → length (joined (take i shown)) + line_room ≤ length start.out.now

-- a sound plan that is not too long, and no refusal of it
pub record Opened (input : List ℕ) (p : Plan) : Type 0 where
  pub taken : Taken input p
  pub none : first_refusal (plan_tests (map_in taken.contents) taken.contents.size) ≡ Ok tt
