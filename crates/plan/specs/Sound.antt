-- REFERENCE, "Plans": what a sound plan is. Its records, joined in their order, are the bytes.
use Rattle.std.specs.Prelude.{◌≡◌, List, ◌++◌, ℕ, ◌+◌, ◌≤◌, length}
use Rattle.plan.specs.declared.Query.{Query}
use Rattle.plan.specs.Records.{floor_record, map_record, size_record, query_records}

-- what the records of a plan hold
pub record Contents : Type 0 where
  pub width : ℕ
  pub height : ℕ
  pub map : List ℕ
  pub size : ℕ
  pub queries : List Query

-- the three records that come once, then the queries, and nothing behind them
abbrev pub plan_bytes : Contents → List ℕ
plan_bytes c =
    floor_record c.width c.height ++ (map_record c.map ++ (size_record c.size ++ query_records c.queries))

-- a sound plan with these contents; bytes are below 256, so its numbers are below 65,536
pub record Sound (bytes : List ℕ) (c : Contents) : Type 0 where
  pub joined : bytes ≡ plan_bytes c
  pub few : length c.queries ≤ 64

-- the offset of the map's content: behind the first record and the map's own header
abbrev pub map_place : Contents → ℕ
map_place c = length (floor_record c.width c.height) + 4

-- where the first query's record begins: behind the three records before it, which is the end where there is none
abbrev pub first_query_place : Contents → ℕ
first_query_place c = length (floor_record c.width c.height) + length (map_record c.map) + length (size_record c.size)
