-- The struct that C reads for each answer: the number, the answer's values or the refusal's place, and 0 in every field
-- that this answer leaves out. A promise is the Rattle function's own.
use Rattle.std.specs.Prelude.{◌≡◌, Bool, true, false, ℕ, Result, Ok, Err}
use Rattle.answers.specs.declared.Refusal.{Refusal}
use Rattle.answers.specs.Numbers as numbers
use Rattle.answers.specs.Numbers.{place_of}
use Rattle.answers.specs.Refusing.{Tested}
use Rattle.lengths.specs.declared.Length.{Length}
use Rattle.plan.specs.declared.Plan.{Plan}
use Rattle.plan.specs.declared.Query.{Query}
use Rattle.rooms.specs.declared.Room.{Room}
use Rattle.route_legs.specs.declared.Way.{Way}
use Rattle.headset.specs.declared.CompareAnswer.{CompareAnswer}
use Rattle.headset.specs.declared.DistanceAnswer.{DistanceAnswer}
use Rattle.headset.specs.declared.CheckAnswer.{CheckAnswer}
use Rattle.headset.specs.declared.RouteAnswer.{RouteAnswer}
use Rattle.headset.specs.declared.RoomAnswer.{RoomAnswer}
use Rattle.headset.specs.declared.PlanAnswer.{PlanAnswer}
use Rattle.headset.specs.declared.QueryAnswer.{QueryAnswer}

-- a struct shows an answer that keeps the promise of the Rattle function
abbrev pub Shows : {A S : Type 0} → (A → S) → (A → Type 0) → S → Type 0
Shows {A} shown Promise s = (a : A) × (s ≡ shown a) × Promise a

-- a length by its two parts
abbrev pub length_of : ℕ → ℕ → Length
length_of straight diagonal = record { straight = straight; diagonal = diagonal }

-- comparing answers first shorter (1), or first not shorter (0)
abbrev pub compare_answer : Result Bool Refusal → CompareAnswer
compare_answer (Ok true) = record { number = 0; shorter = 1 }
compare_answer (Ok false) = record { number = 0; shorter = 0 }
compare_answer (Err f) = record { number = numbers.number_of f; shorter = 0 }

-- the distance answers its centimetres
abbrev pub distance_answer : Result ℕ Refusal → DistanceAnswer
distance_answer (Ok n) = record { number = 0; centimetres = n }
distance_answer (Err f) = record { number = numbers.number_of f; centimetres = 0 }

-- a call without values gives its number alone
abbrev pub number_of : Tested → ℕ
number_of (Ok u) = 0
number_of (Err f) = numbers.number_of f

-- checking gives 11 with the first cell that differs
abbrev pub check_answer : Tested → CheckAnswer
check_answer (Ok u) = record { number = 0; cell = 0 }
check_answer (Err f) = record { number = numbers.number_of f; cell = place_of f }

-- a way gives its length and how many legs it has
abbrev pub route_answer : Result Way Refusal → RouteAnswer
route_answer (Ok w) = record { number = 0; place = 0; straight = w.length.straight; diagonal = w.length.diagonal; legs = w.legs }
route_answer (Err f) = record { number = numbers.number_of f; place = place_of f; straight = 0; diagonal = 0; legs = 0 }

-- a room's answer is left, top, right, bottom
abbrev pub room_answer : Result Room Refusal → RoomAnswer
room_answer (Ok r) = record { number = 0; left = r.left; top = r.top; right = r.right; bottom = r.bottom }
room_answer (Err f) = record { number = numbers.number_of f; left = 0; top = 0; right = 0; bottom = 0 }

-- what the reader tells of a plan, or the offset of the break
abbrev pub plan_answer : Result Plan Refusal → PlanAnswer
plan_answer (Ok p) =
    record {
      number = 0;
      offset = 0;
      width = p.width;
      height = p.height;
      size = p.size;
      map_at = p.map_at;
      map_length = p.map_len;
      queries = p.queries;
      first_query = p.first_query;
    }
plan_answer (Err f) =
    record {
      number = numbers.number_of f;
      offset = place_of f;
      width = 0;
      height = 0;
      size = 0;
      map_at = 0;
      map_length = 0;
      queries = 0;
      first_query = 0;
    }

-- a query's four numbers
abbrev pub query_answer : Result Query Refusal → QueryAnswer
query_answer (Ok q) = record { number = 0; start_column = q.start_col; start_row = q.start_row; goal_column = q.goal_col; goal_row = q.goal_row }
query_answer (Err f) = record { number = numbers.number_of f; start_column = 0; start_row = 0; goal_column = 0; goal_row = 0 }
