-- A plan's records joined: how long they are, and what stands behind each.
use mathlib.Core.Path.{◌≡◌, refl, ap}
use mathlib.Core.List.{List, [], ◌∷◌, ◌++◌, append_assoc}
use Prim.Native.Nat.{ℕ, ◌+◌, ◌*◌}
use native.Mathlib.Omega.{arith}
use lib.ListN.{length, length-append}
use Rattle.plan.specs.declared.Query.{Query}
use Rattle.plan.specs.Records.{floor_record, map_record, size_record, query_records}
use Rattle.plan.specs.Sound.{Contents, plan_bytes, first_query_place}

pub queries_length : (qs : List Query) → length (query_records qs) ≡ 12 * length qs
queries_length [] = refl
queries_length (q ∷ qs) = omega (arith, queries_length qs)

-- a plan's length: the three records, and 12 bytes a query
pub plan_length : (c : Contents) → length (plan_bytes c) ≡ first_query_place c + 12 * length c.queries
plan_length c =
    omega (arith, length-append c.map (size_record c.size ++ query_records c.queries), queries_length c.queries)

-- a plan with a rest behind it, record by record
pub joined_rest : (c : Contents) (rest : List ℕ)
    → plan_bytes c ++ rest
    ≡ floor_record c.width c.height ++ (map_record c.map ++ (size_record c.size ++ (query_records c.queries ++ rest)))
joined_rest c rest =
    ap (λ (l : List ℕ). floor_record c.width c.height ++ l) (append_assoc (map_record c.map) (size_record c.size ++ query_records c.queries) rest)
