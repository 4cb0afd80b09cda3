-- What the first line says of an input, step by step, and the lines of the queries behind it. The argument: an input
-- that is too long is refused by its own test (`long_head`); else the reader's refusal is that of the break
-- (`read_refused`), or the plan is sound (`read_sound`). The tests of a sound plan are over the map's bytes where they
-- lie in the input, which are the contents' map (`map_is`), so what they answer is the first line (`head_of_plan`). Where
-- the first line is a floor's, no test refused (`head_opened`), so the cell size is inside its limits and the floor is
-- sound; then query i's record lies 12 × (i - 1) bytes behind the first one's (`query_in`), and its line is the line
-- with its number (`numbered`).
use mathlib.Core.Path.{◌≡◌, refl, ap, subst, sym, ◌∙◌}
use mathlib.Core.Bool.{false}
use mathlib.Core.List.{List}
use Prim.Native.Nat.{ℕ, suc, ◌+◌, ◌-◌, ◌*◌, ◌≤◌, ◌<◌}
use native.Mathlib.Omega.{arith}
use lib.Dec.{ltb}
use lib.ListN.{length, get_or, take, drop}
use borrow.Author.Tests.{ltb-true, ltb-false}
use Rattle.std.specs.Prelude.{Ok, Err}
use Rattle.answers.specs.declared.Refusal.{Refusal}
use Rattle.answers.specs.declared.Refusal.TheVariants.{SizeOutside, PlanBroken}
use Rattle.answers.specs.Refusing.{Tested, first_refusal, refuse}
use Rattle.answers.proofs.Refusals.{not_passed, all_passed, refuse_passed, refuse_refused}
use Rattle.lengths.specs.Answers.{size_outside}
use Rattle.floor.specs.Floor.{Map, map_of, largest_side}
use Rattle.floor.specs.inner.Ready.{SoundFloor as FloorSound}
use Rattle.floor.proofs.Tested.{sound as floor_is_sound, largest_low}
use Rattle.steps.proofs.OnMap.{few_cells}
use Rattle.plan.specs.declared.Plan.{Plan}
use Rattle.plan.specs.declared.Query.{Query}
use Rattle.plan.specs.Sound.{Contents, map_place}
use Rattle.plan.specs.Reads.{plan_of, broken_at, Reads, query_at}
use Rattle.plan.proofs.Places.{map_within, map_there, query_within, query_there}
use Rattle.plan.proofs.Only.{reading_apart}
use Rattle.print_text.specs.Text.{line}
use Rattle.print_line.specs.Head.{Head}
use Rattle.print_plan.specs.Query.{QueryNumbers}
use Rattle.print_plan.specs.Lines.{map_in, plan_tests, plan_head, Heads, count_of, no_query, LineAt}
use Rattle.print_plan.specs.inner.Parts.{QueryLine, Taken, Opened}

-- a refusal is no floor, and a sound plan's first line is its floor where no test refuses
pub no_floor : {f : Refusal} {p : Plan} → ◌≡◌ {A = Head} (Err f) (Ok p) → ⊥
no_floor e = not_passed e

same_plan : {p q : Plan} → ◌≡◌ {A = Head} (Ok p) (Ok q) → p ≡ q
same_plan e = cc

same_refusal : {f g : Refusal} → ◌≡◌ {A = Head} (Err f) (Err g) → f ≡ g
same_refusal e = cc

floor_passed : (t : Tested) (p q : Plan) → plan_head t p ≡ Ok q → (t ≡ Ok tt) × (q ≡ p)
floor_passed (Ok u) p q e = (refl, same_plan (sym e))
floor_passed (Err f) p q e = absurd (no_floor e)

few : (t : Tested) (p : Plan) → p.queries ≤ 64 → count_of (plan_head t p) ≤ 65
few (Ok u) p h = omega arith
few (Err f) p h = omega arith

-- what a test's answer says
pub passed_head : (t : Tested) (p : Plan) → t ≡ Ok tt → Ok p ≡ plan_head t p
passed_head t p e = sym (ap (λ (x : Tested). plan_head x p) e)

-- what the test of the input's length showed
module _ (input : List ℕ) where
  pub long_head : (f : Refusal) → Err f ≡ refuse (PlanBroken 4096) (ltb 4096 (length input)) → Heads input (Err f)
  long_head f e =
      let (long, same) = refuse_refused (PlanBroken 4096) f _ (sym e) in
      Heads.too_long (ltb-true 4096 (length input) long) (ap Err (sym same))

  pub short_input : Ok tt ≡ refuse (PlanBroken 4096) (ltb 4096 (length input)) → length input ≤ 4096
  short_input e = ltb-false 4096 (length input) (refuse_passed (PlanBroken 4096) _ (sym e))

module _ {input : List ℕ} where
  pub head_few : {h : Head} → Heads input h → count_of h ≤ 65
  head_few (Heads.too_long b e) = omega (arith, ap count_of e)
  head_few (Heads.broken at b p e) = omega (arith, ap count_of e)
  head_few (Heads.sound c b s e) = omega (arith, ap count_of e, few (first_refusal (plan_tests (map_in c) c.size)) (plan_of c) s.few)

  -- a floor's plan is sound, and no test refuses it
  pub head_opened : {h : Head} → Heads input h → (p : Plan) → h ≡ Ok p → Opened input p
  head_opened (Heads.too_long b e) p f = absurd (no_floor (sym e ∙ f))
  head_opened (Heads.broken at b r e) p f = absurd (no_floor (sym e ∙ f))
  head_opened (Heads.sound c b s e) p f =
      let (none, plan) = floor_passed _ (plan_of c) p (sym e ∙ f) in
      record { taken = record { contents = c; small = b; sound = s; plan = plan }; none = none }

  pub opened_head : (p : Plan) (o : Opened input p) → Heads input (Ok (plan_of o.taken.contents))
  opened_head p o = Heads.sound o.taken.contents o.taken.small o.taken.sound (passed_head _ _ o.none)

  -- what the reader answered
  pub read_sound : (p : Plan) → length input ≤ 4096 → Reads input (Ok p) → Taken input p
  read_sound p b (Reads.sound c s e) = record { contents = c; small = b; sound = s; plan = same_plan (reading_apart (Ok p) _ e) }
  read_sound p b (Reads.broken at s e) = absurd (no_floor (sym (reading_apart (Ok p) (broken_at at) e)))

  pub read_refused : (g : Refusal) → length input ≤ 4096 → Reads input (Err g) → Heads input (Err g)
  read_refused g b (Reads.sound c s e) = absurd (no_floor (reading_apart (Err g) (Ok (plan_of c)) e))
  read_refused g b (Reads.broken at s e) = Heads.broken at b s (reading_apart (Err g) (broken_at at) e)

  module _ (p : Plan) (t : Taken input p) (map : List ℕ) (there : map ≡ t.contents.map) where
    -- the floor that was tested is the plan's
    tested : map_of p.width p.height map ≡ map_in t.contents
    tested = ap (λ (k : Plan). map_of k.width k.height map) t.plan ∙ ap (map_of t.contents.width t.contents.height) there

    pub head_of_plan : (r : Tested) → r ≡ first_refusal (plan_tests (map_of p.width p.height map) p.size) → (h : Head) → h ≡ plan_head r p → Heads input h
    head_of_plan r e h f =
        let c = t.contents in
        let sized : first_refusal (plan_tests (map_of p.width p.height map) p.size) ≡ first_refusal (plan_tests (map_of p.width p.height map) c.size) =
        ap (λ (k : Plan). first_refusal (plan_tests (map_of p.width p.height map) k.size)) t.plan in
        let same : r ≡ first_refusal (plan_tests (map_in c) c.size) = e ∙ sized ∙ ap (λ (m : Map). first_refusal (plan_tests m c.size)) tested in
        Heads.sound c t.small t.sound (f ∙ ap (plan_head r) t.plan ∙ ap (λ (x : Tested). plan_head x (plan_of c)) same)

  module _ (p : Plan) (o : Opened input p) (number : ℕ) (some : 0 < number) (most : number ≤ p.queries) where
    abbrev contents : Contents
    contents = o.taken.contents

    -- a query's place among the queries
    among : number - 1 < length contents.queries
    among = omega (arith, ap (λ (k : Plan). k.queries) o.taken.plan)

    pub query_is : query_at input (p.first_query + 12 * (number - 1)) ≡ get_or contents.queries (number - 1) no_query
    query_is =
        ap (λ (k : Plan). query_at input (k.first_query + 12 * (number - 1))) o.taken.plan
        ∙ query_there o.taken.sound (number - 1) among no_query

    told : {q : Query} → q ≡ get_or contents.queries (number - 1) no_query → (l : List ℕ)
        → QueryLine (map_in contents) contents.size number q l → LineAt input number l
    told e l (QueryLine.numbers ns n) =
        let up : suc (number - 1) ≡ number = omega arith in
        subst (λ (k : ℕ). LineAt input k (line ns)) up
        (LineAt.query contents (number - 1) ns o.taken.sound (opened_head p o) among
        (subst (λ (k : ℕ). QueryNumbers (map_in contents) contents.size k (get_or contents.queries (number - 1) no_query) ns) (sym up)
        (subst (λ (q : Query). QueryNumbers (map_in contents) contents.size number q ns) e n)))

    -- a query's line is the line with its number
    pub numbered : (map : List ℕ) → map ≡ contents.map → (q : Query) → q ≡ query_at input (p.first_query + 12 * (number - 1)) → (l : List ℕ)
        → QueryLine (map_of p.width p.height map) p.size number q l → LineAt input number l
    numbered map there q e l n =
        told (e ∙ query_is) l
        (subst (λ (s : ℕ). QueryLine (map_in contents) s number q l) (ap (λ (k : Plan). k.size) o.taken.plan)
        (subst (λ (m : Map). QueryLine m p.size number q l) (tested p o.taken map there) n))

    pub query_in : p.first_query + 12 * (number - 1) + 12 ≤ length input
    query_in =
        subst (λ (k : Plan). k.first_query + 12 * (number - 1) + 12 ≤ length input) (sym o.taken.plan)
        (query_within o.taken.sound (number - 1) among)

  -- the map's content
  module _ (p : Plan) (t : Taken input p) where
    pub map_inside : p.map_at + p.map_len ≤ length input
    map_inside = subst (λ (k : Plan). k.map_at + k.map_len ≤ length input) (sym t.plan) (map_within t.sound)

    pub map_is : take (p.map_at + p.map_len - p.map_at) (drop p.map_at input) ≡ t.contents.map
    map_is =
        let n : map_place t.contents + length t.contents.map - map_place t.contents ≡ length t.contents.map = omega arith in
        ap (λ (k : Plan). take (k.map_at + k.map_len - k.map_at) (drop k.map_at input)) t.plan
        ∙ ap (λ (k : ℕ). take k (drop (map_place t.contents) input)) n
        ∙ map_there t.sound

  -- what no refusal shows
  module _ (p : Plan) (o : Opened input p) where
    pub size_inside : size_outside p.size ≡ false
    size_inside =
        let c = o.taken.contents in
        let all = all_passed (plan_tests (map_in c) c.size) o.none in
        ap (λ (k : Plan). size_outside k.size) o.taken.plan ∙ refuse_passed SizeOutside _ (search)

    inside : FloorSound (map_in o.taken.contents)
    inside =
        let c = o.taken.contents in
        let all = all_passed (plan_tests (map_in c) c.size) o.none in
        floor_is_sound largest_side largest_low (map_in c) (search)

    pub floor_sound : (map : List ℕ) → map ≡ o.taken.contents.map → FloorSound (map_of p.width p.height map)
    floor_sound map there = subst FloorSound (sym (tested p o.taken map there)) inside

    pub cells_few : p.height * p.width ≤ 16384
    cells_few = subst (λ (k : Plan). k.height * k.width ≤ 16384) (sym o.taken.plan) (few_cells (map_in o.taken.contents) inside)
