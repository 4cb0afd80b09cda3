-- A computed test of a case, and that a case that passes it holds: the stated answer meets the promise, and no second
-- one does.
use mathlib.Core.Path.{◌≡◌, refl, ap, ap₂, ◌∙◌}
use mathlib.Core.Bool.{Bool, true, false, false≢true}
use mathlib.Core.List.{List, [], ◌∷◌}
use Prim.Native.Nat.{ℕ, ◌+◌, ◌-◌, ◌*◌, ◌<◌}
use native.Mathlib.Omega.{arith}
use borrow.Author.Tests.{eqb-true, leb-true, ltb-true}
use lib.Dec.{eqb, leb, ltb}
use lib.ListN.{length}
use Rattle.std.specs.Prelude.{Ok, Err}
use Rattle.answers.specs.Numbers.{number_of, place_of}
use Rattle.answers.specs.Bools.{pick, either, both, all_below}
use Rattle.answers.specs.Refusing.{Tested, Given, done, refused, first_refusal, gives, no_values}
use Rattle.answers.proofs.Bools.{both_true}
use Rattle.answers.proofs.Numbers.{told_apart}
use Rattle.answers.proofs.Refusals.{work_done}
use Rattle.lengths.specs.declared.Length.{Length}
use Rattle.lengths.specs.Order.{shorter}
use Rattle.lengths.specs.Distance.{Spoken}
use Rattle.lengths.specs.Answers.{compare_tests, distance_tests}
use Rattle.lengths.proofs.Rounding.{spoken_unique}
use Rattle.floor.specs.Floor.{Map, cells, spot_cell, largest_side}
use Rattle.floor.specs.inner.Ready.{SoundFloor}
use Rattle.floor.specs.Tests.{floor_tested}
use Rattle.floor.proofs.Tested.{sound, largest_low}
use Rattle.steps.specs.inner.Leading.{lead_of}
use Rattle.steps.specs.Step.{steps_of}
use Rattle.steps.specs.Way.{Only}
use Rattle.rooms.specs.Answers.{room_tests, corners_given}
use Rattle.rooms.specs.Room.{room_of}
use Rattle.calls.specs.Calls.{to_goal, goal_tests, route, route_tests}
use Rattle.table_theory.specs.Filled.{Filled}
use Rattle.table.proofs.Unique.{fills_only, checks_only}
use Rattle.route.specs.Answers.{way_given}
use Rattle.route.proofs.Unique.{finds_only}
use Rattle.stars.specs.Starred.{Case, compare, distance, room, fill, check, find, Holds, All, written}
use Rattle.stars.proofs.Tables.{right?, verdict?, verdict, filled}
use Rattle.stars.proofs.Runs.{reads?, reading_of, reads, routed}

-- two answers are the same, by number and values
abbrev same_list? : List ℕ → List ℕ → Bool
same_list? [] [] = true
same_list? [] (w ∷ ws) = false
same_list? (v ∷ vs) [] = false
same_list? (v ∷ vs) (w ∷ ws) = both (eqb v w) (same_list? vs ws)

abbrev same? : Given → Given → Bool
same? (done vs) (done ws) = same_list? vs ws
same? (done vs) (refused g) = false
same? (refused f) (done ws) = false
same? (refused f) (refused g) = both (eqb (number_of f) (number_of g)) (eqb (place_of f) (place_of g))

same_list : (vs ws : List ℕ) → same_list? vs ws ≡ true → vs ≡ ws
same_list [] [] e = refl
same_list [] (w ∷ ws) e = absurd (false≢true e)
same_list (v ∷ vs) [] e = absurd (false≢true e)
same_list (v ∷ vs) (w ∷ ws) e = let (p, q) = both_true (eqb v w) _ e in ap₂ ◌∷◌ (eqb-true v w p) (same_list vs ws q)

same : (g h : Given) → same? g h ≡ true → g ≡ h
same (done vs) (done ws) e = ap done (same_list vs ws e)
same (done vs) (refused g) e = absurd (false≢true e)
same (refused f) (done ws) e = absurd (false≢true e)
same (refused f) (refused g) e =
    let (p, q) = both_true (eqb (number_of f) (number_of g)) _ e in
    ap refused (told_apart f g (eqb-true _ _ p) (eqb-true _ _ q))

-- no test refuses
abbrev passes? : Tested → Bool
passes? (Ok u) = true
passes? (Err f) = false

passes : (t : Tested) → passes? t ≡ true → t ≡ Ok tt
passes (Ok u) e = refl
passes (Err f) e = absurd (false≢true e)

-- the first value given
abbrev first : Given → ℕ
first (done []) = 0
first (done (v ∷ vs)) = v
first (refused f) = 0

-- 9: there is no way
abbrev no_way? : Given → Bool
no_way? (done vs) = false
no_way? (refused f) = eqb (number_of f) 9

-- n is the distance spoken
abbrev spoken? : ℕ → Length → ℕ → Bool
spoken? size l n =
    let part = n - size * l.straight in
    let square = 8 * (size * l.diagonal * (size * l.diagonal)) in
    both (leb (size * l.straight) n) (both (ltb square ((2 * part + 1) * (2 * part + 1))) (either (eqb part 0) (ltb ((2 * part - 1) * (2 * part - 1)) square)))

below : (part square : ℕ) → either (eqb part 0) (ltb ((2 * part - 1) * (2 * part - 1)) square) ≡ true → 0 < part → (2 * part - 1) * (2 * part - 1) < square
below part square e h = by (eqb part 0) refl e
  where
    by : (z : Bool) → eqb part 0 ≡ z → either z (ltb ((2 * part - 1) * (2 * part - 1)) square) ≡ true → (2 * part - 1) * (2 * part - 1) < square
    by true p q = absurd (omega (arith, eqb-true part 0 p))
    by false p q = ltb-true _ _ q

spoken : (size : ℕ) (l : Length) (n : ℕ) → spoken? size l n ≡ true → Spoken size l n
spoken size l n e =
    let (p, q) = both_true (leb (size * l.straight) n) _ e in
    let (r, s) = both_true (ltb (8 * (size * l.diagonal * (size * l.diagonal))) _) _ q in
    record {
      part = n - size * l.straight;
      nearest = record { above = ltb-true _ _ r; below = below (n - size * l.straight) _ s };
      sum = omega (arith, leb-true (size * l.straight) n p);
    }

-- the check's answer that is given so
abbrev check_of : Given → Tested
check_of (done vs) = Ok tt
check_of (refused f) = Err f

-- the floor is accepted, the goal is on it, and the table is right everywhere
abbrev table? : Map → ℕ → List ℕ → Bool
table? m goal t =
    both (passes? (floor_tested largest_side m)) (both (ltb goal (cells m)) (both (eqb (length t) (cells m)) (all_below (right? m goal t) (cells m))))

record Table (m : Map) (goal : ℕ) (t : List ℕ) : Type 0 where
  sound : SoundFloor m
  on : goal < cells m
  is_filled : Filled (steps_of m) (Only goal) (cells m) t

table : (m : Map) (goal : ℕ) (t : List ℕ) → table? m goal t ≡ true → Table m goal t
table m goal t e =
    let (p, q) = both_true (passes? (floor_tested largest_side m)) _ e in
    let (r, s) = both_true (ltb goal (cells m)) _ q in
    let (u, v) = both_true (eqb (length t) (cells m)) _ s in
    let is_sound = sound largest_side largest_low m (passes _ p) in
    let on = ltb-true goal (cells m) r in
    record { sound = is_sound; on = on; is_filled = filled m goal t is_sound on (eqb-true _ _ u) v }

-- what a case states, computed
abbrev holds? : Case → Bool
holds? (compare a b given) = both (passes? (first_refusal (compare_tests a b))) (same? (done (pick (shorter a b) 1 0 ∷ [])) given)
holds? (distance size l given) =
    both (passes? (first_refusal (distance_tests size l))) (both (same? (done (first given ∷ [])) given) (spoken? size l (first given)))
holds? (room m s given) = both (passes? (first_refusal (room_tests m s))) (same? (done (corners_given (room_of m s.column s.row))) given)
holds? (fill m goal t) = both (passes? (first_refusal (goal_tests (to_goal m goal) (cells m)))) (table? m (spot_cell m goal) t)
holds? (check m goal t given) =
    both (passes? (first_refusal (goal_tests (to_goal m goal) (length t))))
    (both (same? (gives no_values (check_of given)) given) (verdict? (right? m (spot_cell m goal) t) (cells m) (check_of given)))
holds? (find m start goal given legs t) =
    both (passes? (first_refusal (route_tests (route m start goal) (cells m))))
    (both (table? m (spot_cell m goal) t)
    (both (ltb (spot_cell m start) (cells m))
    (both (same? (gives way_given (reading_of (no_way? given) legs)) given) (reads? (lead_of m) t (spot_cell m start) (no_way? given) legs))))

holds : (c : Case) → holds? c ≡ true → Holds c
holds (compare a b given) e =
    let (p, q) = both_true (passes? (first_refusal (compare_tests a b))) _ e in
    λ r a. a.does (passes _ p) ∙ same _ given q
holds (distance size l given) e =
    let (p, q) = both_true (passes? (first_refusal (distance_tests size l))) _ e in
    let (s, u) = both_true (same? (done (first given ∷ [])) given) _ q in
    λ r a.
    let (n, f, v) = a.does (passes _ p) in
    f ∙ ap (λ (k : ℕ). done (k ∷ [])) (spoken_unique size l n (first given) v (spoken size l (first given) u)) ∙ same _ given s
holds (room m s given) e =
    let (p, q) = both_true (passes? (first_refusal (room_tests m s))) _ e in
    λ r a. a.does (passes _ p) ∙ same _ given q
holds (fill m goal t) e =
    let (p, q) = both_true (passes? (first_refusal (goal_tests (to_goal m goal) (cells m)))) _ e in
    let is = table m (spot_cell m goal) t q in
    λ r old new size a.
    let none = ap (λ (n : ℕ). first_refusal (goal_tests (to_goal m goal) n)) size ∙ passes _ p in
    let (f, g) = fills_only (to_goal m goal) old r (Ok tt) new t a (work_done _ (done []) none (refl, is.is_filled)) in
    (ap (gives no_values) f, g)
holds (check m goal t given) e =
    let (p, q) = both_true (passes? (first_refusal (goal_tests (to_goal m goal) (length t)))) _ e in
    let (s, u) = both_true (same? (gives no_values (check_of given)) given) _ q in
    λ r a.
    let stated = work_done _ (gives no_values (check_of given)) (passes _ p) (verdict m (spot_cell m goal) t (cells m) (check_of given) u) in
    ap (gives no_values) (checks_only (to_goal m goal) t r (check_of given) a stated) ∙ same _ given s
holds (find m start goal given legs t) e =
    let (p, q) = both_true (passes? (first_refusal (route_tests (route m start goal) (cells m)))) _ e in
    let (s, u) = both_true (table? m (spot_cell m goal) t) _ q in
    let (v, w) = both_true (ltb (spot_cell m start) (cells m)) _ u in
    let (x, y) = both_true (same? (gives way_given (reading_of (no_way? given) legs)) given) _ w in
    let is = table m (spot_cell m goal) t s in
    λ r old new buffer buffer' size wide a.
    let none = ap (λ (n : ℕ). first_refusal (route_tests (route m start goal) n)) size ∙ passes _ p in
    let read =
    reads m is.sound (spot_cell m goal) is.on t is.is_filled (spot_cell m start) (ltb-true _ _ v) (no_way? given) legs y buffer wide in
    let found = routed m (spot_cell m goal) (spot_cell m start) buffer (written legs buffer) (no_way? given) legs read in
    let (f, left) =
    finds_only (route m start goal) old buffer r (reading_of (no_way? given) legs) new t buffer' (written legs buffer) a
    (work_done _ (gives way_given (reading_of (no_way? given) legs)) none (is.is_filled, found)) in
    (ap (gives way_given) f ∙ same _ given x, left.0, left.1)

abbrev pub all? : List Case → Bool
all? [] = true
all? (c ∷ cs) = both (holds? c) (all? cs)

pub all : (cs : List Case) → all? cs ≡ true → All cs
all [] e = tt
all (c ∷ cs) e = let (p, q) = both_true (holds? c) (all? cs) e in (holds c p, all cs q)
