-- What the reader's inner functions answer, step by step. Nothing that the reader promises is stated with these: they
-- are tied to sound and broken plans by laws.
use Rattle.std.specs.Prelude.{◌≡◌, ◌≤◌, Bool, true, false, List, ℕ, zero, suc, ◌+◌, ◌*◌, length, drop, ltb, leb, eqb, Option, Some, None, ok_or, Result, Ok}
use Rattle.answers.specs.declared.Refusal.TheVariants as refusal
use Rattle.answers.specs.declared.Refusal.{Refusal}
use Rattle.answers.specs.Bools.{pick}
use Rattle.plan.specs.declared.Plan.{Plan}
use Rattle.plan.specs.declared.Kind.{Kind}
use Rattle.plan.specs.declared.Kind.TheVariants as kinds
use Rattle.plan.specs.declared.Content.{Content}
use Rattle.plan.specs.Records.{number_in, length_in, kind_in}
use Rattle.plan.specs.Reads.{broken_at}

-- the number of a kind
abbrev pub kind_number : Kind → ℕ
kind_number kinds.Floor = 1
kind_number kinds.Map = 2
kind_number kinds.Size = 3
kind_number kinds.Query = 4

-- where the content of a record at an offset lies, and the next record
abbrev pub content_at : ℕ → ℕ → Content
content_at at n = record { at = at + 4; len = n; next = at + 4 + n }

-- a content that begins behind the header of a record at an offset lies within the bytes
pub record Lies (bytes : List ℕ) (at : ℕ) (c : Content) : Type 0 where
  pub begins_at : c.at ≡ at + 4
  pub next_at : c.next ≡ c.at + c.len
  pub within : c.next ≤ length bytes

-- the record of a kind that begins the rest, which begins at an offset
unfoldable pub record_in : List ℕ → ℕ → ℕ → Option Content
record_in rest at kind =
    pick (leb (4 + length_in rest) (length rest))
    (pick (eqb (kind_in rest) kind) (Some (content_at at (length_in rest))) None)
    None

-- the record of a kind at an offset
unfoldable pub record_at : List ℕ → ℕ → ℕ → Option Content
record_at bytes at kind = record_in (drop at bytes) at kind

-- the same record, if its content has a length
unfoldable pub of_fixed_length : ℕ → Option Content → Option Content
of_fixed_length n (Some c) = pick (eqb c.len n) (Some c) None
of_fixed_length n None = None

-- the record of a kind and a fixed length at an offset
unfoldable pub fixed_record_at : List ℕ → ℕ → ℕ → ℕ → Option Content
fixed_record_at bytes at kind n = of_fixed_length n (record_at bytes at kind)

-- a record that was asked for, or a break at the offset
abbrev pub or_broken : ℕ → Option Content → Result Content Refusal
or_broken at found = ok_or found (refusal.PlanBroken at)

-- one more query, where its record was read
abbrev pub and_more : (ℕ → ℕ) → Option Content → ℕ
and_more more (Some c) = suc (more c.next)
and_more more None = 0

-- how many queries stand one after another from an offset, of which so many are counted at most
unfoldable pub count_from : List ℕ → ℕ → ℕ → ℕ
count_from bytes zero at = 0
count_from bytes (suc left) at = and_more (λ next. count_from bytes left next) (fixed_record_at bytes at 4 8)

-- whether the bytes go on after an offset
abbrev pub goes_on_at : List ℕ → ℕ → Bool
goes_on_at bytes at = ltb at (length bytes)

-- the answer, from the contents of the first three records and the count of the queries
abbrev pub after_end : List ℕ → Content → Content → Content → ℕ → Bool → Result Plan Refusal
after_end bytes floor map size n false =
    Ok
    (record {
      width = number_in (drop floor.at bytes);
      height = number_in (drop (floor.at + 2) bytes);
      size = number_in (drop size.at bytes);
      map_at = map.at;
      map_len = map.len;
      queries = n;
      first_query = size.next;
    })
after_end bytes floor map size n true = broken_at (size.next + 12 * n)

abbrev pub after_queries : List ℕ → Content → Content → Content → ℕ → Result Plan Refusal
after_queries bytes floor map size n = after_end bytes floor map size n (goes_on_at bytes (size.next + 12 * n))

abbrev pub after_size : List ℕ → Content → Content → Option Content → Result Plan Refusal
after_size bytes floor map (Some size) = after_queries bytes floor map size (count_from bytes 64 size.next)
after_size bytes floor map None = broken_at map.next

abbrev pub after_map : List ℕ → Content → Option Content → Result Plan Refusal
after_map bytes floor (Some map) = after_size bytes floor map (fixed_record_at bytes map.next 3 2)
after_map bytes floor None = broken_at floor.next

abbrev pub after_floor : List ℕ → Option Content → Result Plan Refusal
after_floor bytes (Some floor) = after_map bytes floor (record_at bytes floor.next 2)
after_floor bytes None = broken_at 0

-- the reader's answer
abbrev pub reading_of : List ℕ → Result Plan Refusal
reading_of bytes = after_floor bytes (fixed_record_at bytes 0 1 4)
