-- Where the parts of a sound plan lie.
use mathlib.Core.Path.{◌≡◌, refl, sym, ◌∙◌, ap}
use mathlib.Core.List.{List, ◌++◌, append_assoc}
use Prim.Native.Nat.{ℕ, ◌+◌, ◌*◌, ◌<◌, ◌≤◌}
use native.Mathlib.Omega.{arith}
use lib.ListN.{length, get_or, take, drop, length-append}
use lib.Seq.{take_at, drop_at}
use Rattle.plan.specs.declared.Query.{Query}
use Rattle.plan.specs.Records.{floor_record, map_record, size_record, query_records}
use Rattle.plan.specs.Sound.{Contents, Sound, map_place, first_query_place}
use Rattle.plan.specs.Reads.{query_at}
use Rattle.plan.proofs.Joined.{plan_length}
use Rattle.plan.proofs.Queries.{query_among}

module _ {bytes : List ℕ} {c : Contents} (s : Sound bytes c) where
  sound_length : length bytes ≡ first_query_place c + 12 * length c.queries
  sound_length = ap length s.joined ∙ plan_length c

  -- the map's content is the part of its length at its offset
  pub map_within : map_place c + length c.map ≤ length bytes
  map_within = omega (arith, sound_length)

  pub map_there : take (length c.map) (drop (map_place c) bytes) ≡ c.map
  map_there =
      ap (λ (l : List ℕ). take (length c.map) (drop 12 l)) s.joined
      ∙ take_at c.map (size_record c.size ++ query_records c.queries) (length c.map) refl

  -- the queries' records are all that stands from the first one on
  pub queries_there : drop (first_query_place c) bytes ≡ query_records c.queries
  queries_there =
      let head = floor_record c.width c.height ++ map_record c.map in
      ap (drop (first_query_place c)) (s.joined ∙ sym (append_assoc head (size_record c.size) (query_records c.queries)))
      ∙ drop_at (head ++ size_record c.size) (query_records c.queries) (first_query_place c) (omega (arith, length-append c.map (size_record c.size)))

  -- the first one's offset is the end if there is none
  pub none_at_end : length c.queries ≡ 0 → first_query_place c ≡ length bytes
  none_at_end h = omega (arith, sound_length)

  -- query i's record lies 12 × i bytes behind the first one's, within the bytes, and the numbers there are its own
  module _ (i : ℕ) (h : i < length c.queries) where
    pub query_within : first_query_place c + 12 * i + 12 ≤ length bytes
    query_within = omega (arith, sound_length)

    pub query_there : (d : Query) → query_at bytes (first_query_place c + 12 * i) ≡ get_or c.queries i d
    query_there d = query_among bytes c.queries (first_query_place c) i d queries_there h _ refl
