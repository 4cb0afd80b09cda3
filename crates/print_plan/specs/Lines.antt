-- REFERENCE, "What `ways` prints", line by line: what the first line says, which line has a number, counted from 0,
-- and how many lines there are. That there is one list of lines with these numbers is proved in
-- proofs/Apart.
use Rattle.std.specs.Prelude.{◌≡◌, List, [], ◌∷◌, ℕ, suc, ◌+◌, ◌≤◌, ◌<◌, length, get_or, Ok, Err}
use Rattle.answers.specs.declared.Refusal.TheVariants.{SizeOutside, PlanBroken}
use Rattle.answers.specs.Refusing.{Tested, refuse, first_refusal}
use Rattle.lengths.specs.Answers.{size_outside}
use Rattle.floor.specs.Floor.{Map, map_of, largest_side}
use Rattle.floor.specs.Tests.{floor_tested}
use Rattle.plan.specs.declared.Plan.{Plan}
use Rattle.plan.specs.declared.Query.{Query}
use Rattle.plan.specs.Sound.{Contents, Sound}
use Rattle.plan.specs.Break.{Broken}
use Rattle.plan.specs.Reads.{plan_of}
use Rattle.print_text.specs.Text.{line}
use Rattle.print_line.specs.Head.{Head, head_line}
use Rattle.print_plan.specs.Query.{QueryNumbers}

-- the floor of a plan
abbrev pub map_in : Contents → Map
map_in c = map_of c.width c.height c.map

-- the tests of a sound plan, in their order
abbrev pub plan_tests : Map → (size : ℕ) → List Tested
plan_tests m size = floor_tested largest_side m ∷ refuse SizeOutside (size_outside size) ∷ []

-- what the first line says of a sound plan: a refusal, or its floor
abbrev pub plan_head : Tested → Plan → Head
plan_head (Err f) p = Err f
plan_head (Ok u) p = Ok p

-- 14 with an offset
abbrev pub broken_head : ℕ → Head
broken_head at = Err (PlanBroken at)

-- what the first line says
pub data Heads (input : List ℕ) (h : Head) : Type 0 where
  -- too many bytes
  too_long : 4096 < length input → h ≡ broken_head 4096 → Heads input h
  -- a broken plan: 14, and where it breaks
  broken : (at : ℕ) → length input ≤ 4096 → Broken input at → h ≡ broken_head at → Heads input h
  -- a sound plan: what its tests say
  sound : (c : Contents) → length input ≤ 4096 → Sound input c → h ≡ plan_head (first_refusal (plan_tests (map_in c) c.size)) (plan_of c) → Heads input h

-- how many lines there are
abbrev pub count_of : Head → ℕ
count_of (Err f) = 1
count_of (Ok p) = 1 + p.queries

-- what stands past the end of the queries
abbrev pub no_query : Query
no_query = record { start_col = 0; start_row = 0; goal_col = 0; goal_row = 0 }

-- the line with this number
pub data LineAt (input : List ℕ) : ℕ → List ℕ → Type 0 where
  first : (h : Head) → Heads input h → LineAt input 0 (head_line h)
  -- where the first line is a floor, a line for each query, numbered from 1
  query :
      (c : Contents) (i : ℕ) (ns : List ℕ) → Sound input c → Heads input (Ok (plan_of c)) → i < length c.queries
      → QueryNumbers (map_in c) c.size (suc i) (get_or c.queries i no_query) ns → LineAt input (suc i) (line ns)
