-- REFERENCE, "Plans": what the reader gives back.
use Rattle.std.specs.Prelude.{◌≡◌, Bool, List, [], ◌∷◌, ℕ, ◌+◌, ltb, length, drop, Result, Ok, Err}
use Rattle.answers.specs.declared.Refusal.{Refusal}
use Rattle.answers.specs.declared.Refusal.TheVariants as refusal
use Rattle.answers.specs.Refusing.{done, refuse, Answered, gives}
use Rattle.plan.specs.declared.Plan.{Plan}
use Rattle.plan.specs.declared.Query.{Query}
use Rattle.plan.specs.Records.{number_in}
use Rattle.plan.specs.Sound.{Contents, Sound, map_place, first_query_place}
use Rattle.plan.specs.Break.{Broken}

-- what the reader tells of a sound plan: its numbers as they stand, and where its map and its queries lie
abbrev pub plan_of : Contents → Plan
plan_of c =
    record {
      width = c.width;
      height = c.height;
      size = c.size;
      map_at = map_place c;
      map_len = length c.map;
      queries = length c.queries;
      first_query = first_query_place c;
    }

-- a plan gives these numbers in this order
abbrev pub plan_given : Plan → List ℕ
plan_given p = p.width ∷ p.height ∷ p.size ∷ p.map_at ∷ p.map_len ∷ p.queries ∷ p.first_query ∷ []

-- 14, with the offset of the break
abbrev pub broken_at : ℕ → Result Plan Refusal
broken_at at = Err (refusal.PlanBroken at)

-- what the reader gives for these bytes: the answer of the sound plan that they are, or the place of their break
pub data Reads (bytes : List ℕ) (r : Result Plan Refusal) : Type 0 where
  sound : (c : Contents) → Sound bytes c → gives plan_given r ≡ gives plan_given (Ok (plan_of c)) → Reads bytes r
  broken : (at : ℕ) → Broken bytes at → gives plan_given r ≡ gives plan_given (broken_at at) → Reads bytes r

-- the query whose record begins at an offset: its four numbers stand behind the record's header
abbrev pub query_at : List ℕ → ℕ → Query
query_at bytes at =
    record {
      start_col = number_in (drop (at + 4) bytes);
      start_row = number_in (drop (at + 6) bytes);
      goal_col = number_in (drop (at + 8) bytes);
      goal_row = number_in (drop (at + 10) bytes);
    }

-- a query gives the four numbers of its record
abbrev pub query_given : Query → List ℕ
query_given q = q.start_col ∷ q.start_row ∷ q.goal_col ∷ q.goal_row ∷ []

-- 14: the bytes end before the 12 bytes of a query's record that begins at an offset
unfoldable pub record_past : List ℕ → ℕ → Bool
record_past bytes at = ltb (length bytes) (at + 12)

-- asking for a query: 14, with no place
abbrev pub Asks : List ℕ → ℕ → Result Query Refusal → Type 0
Asks bytes at r =
    Answered (refuse (refusal.PlanBroken 0) (record_past bytes at)) (Unit {0}) (λ g. g ≡ done (query_given (query_at bytes at)))
    (gives query_given r)
