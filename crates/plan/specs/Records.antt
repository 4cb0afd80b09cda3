-- REFERENCE, "Plans": the records that a plan is joined from, as bytes.
use Rattle.std.specs.Prelude.{List, [], ◌∷◌, ◌++◌, ℕ, ◌+◌, ◌*◌, ◌/◌, ◌%◌, length, get_or, drop}
use Rattle.plan.specs.declared.Query.{Query}

-- a number in 2 bytes, the low one first
abbrev pub number : ℕ → List ℕ
number n = n % 256 ∷ n / 256 ∷ []

-- the number that the first 2 bytes hold
unfoldable pub number_in : List ℕ → ℕ
number_in bytes = get_or bytes 0 0 + 256 * get_or bytes 1 0

-- a record: how long its content is, its kind, and the content
abbrev pub record_of : ℕ → List ℕ → List ℕ
record_of kind content = number (length content) ++ number kind ++ content

-- the content length that the record at the front states
abbrev pub length_in : List ℕ → ℕ
length_in bytes = number_in bytes

-- the kind that the record at the front states
abbrev pub kind_in : List ℕ → ℕ
kind_in bytes = number_in (drop 2 bytes)

-- kind 1: the sides
abbrev pub floor_record : ℕ → ℕ → List ℕ
floor_record width height = record_of 1 (number width ++ number height)

-- kind 2: the map's bytes
abbrev pub map_record : List ℕ → List ℕ
map_record map = record_of 2 map

-- kind 3: the cell size
abbrev pub size_record : ℕ → List ℕ
size_record size = record_of 3 (number size)

-- kind 4: a query, from a column and row to a column and row
abbrev pub query_content : Query → List ℕ
query_content q = number q.start_col ++ number q.start_row ++ number q.goal_col ++ number q.goal_row

abbrev pub query_record : Query → List ℕ
query_record q = record_of 4 (query_content q)

-- queries one after another
abbrev pub query_records : List Query → List ℕ
query_records [] = []
query_records (q ∷ qs) = query_record q ++ query_records qs
