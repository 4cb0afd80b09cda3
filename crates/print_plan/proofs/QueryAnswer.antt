-- What finding a route answered is what a query's line says. There is no 10, since the leg buffer holds any route's
-- legs.
use mathlib.Core.Path.{◌≡◌, refl, ap, ap₂, subst, sym, ◌∙◌}
use mathlib.Core.List.{List, [], ◌∷◌}
use Prim.Native.Nat.{ℕ, ◌*◌, ◌<◌}
use native.Mathlib.Omega.{arith}
use lib.ListN.{length, take, drop, length-append}
use lib.Seq.{take_at}
use Rattle.std.specs.Prelude.{Result, Ok, Err}
use Rattle.answers.specs.Numbers.{number_of}
use Rattle.answers.specs.declared.Refusal.{Refusal}
use Rattle.answers.specs.Refusing.{Tested, first_refusal, refused, gives}
use Rattle.answers.proofs.Refusals.{never}
use Rattle.lengths.specs.Distance.{Spoken}
use Rattle.floor.specs.Floor.{Map, cells}
use Rattle.floor.specs.inner.Ready.{SoundFloor}
use Rattle.steps.specs.Way.{Only}
use Rattle.steps.specs.Step.{steps_of}
use Rattle.steps.proofs.OnMap.{small_shortest}
use Rattle.calls.specs.Calls.{route_tests}
use Rattle.plan.specs.declared.Query.{Query}
use Rattle.route_walker.specs.Legs.{bytes}
use Rattle.route_legs.specs.declared.Way.{Way}
use Rattle.route_legs.specs.Read.{Found}
use Rattle.route_legs.proofs.LegsOf.{length_bytes}
use Rattle.route.specs.Answers.{way_given, Routed, Asked, Finds}
use Rattle.route.proofs.Unique.{answer_apart}
use Rattle.print_line.specs.inner.Written.{WayFits, Fits, way_numbers, AnswerLine}
use Rattle.print_plan.specs.Query.{asked, query_tested, start_cell, goal_cell, QueryNumbers}
use Rattle.print_plan.specs.inner.Parts.{QueryLine}
use Rattle.print_plan.proofs.FewLegs.{few_legs, goal_inside}

same_way : {w v : Way} → ◌≡◌ {A = Result Way Refusal} (Ok w) (Ok v) → v ≡ w
same_way e = cc

same_refusal : {f g : Refusal} → refused f ≡ refused g → g ≡ f
same_refusal e = cc

module _ (m : Map) (q : Query) (sound : SoundFloor m) (table legs table' legs' : List ℕ) (entries : length table ≡ cells m) (room : length legs ≡ 32766) where
  abbrev Answers : Result Way Refusal → Type 0
  Answers a = Finds (asked m q) table legs a table' legs'

  abbrev FoundWay : Way → Type 0
  FoundWay w = Found (steps_of m) (Only (goal_cell m q)) (λ h. h) (start_cell m q) legs w legs'

  -- the query's tests are those of the call, whose table has an entry for each cell
  same : {t : Tested} → first_refusal (route_tests (asked m q) (length table)) ≡ t → query_tested m q ≡ t
  same e = sym (ap (λ (n : ℕ). first_refusal (route_tests (asked m q) n)) entries) ∙ e

  -- a way was found
  found : (w : Way) → Answers (Ok w) → (query_tested m q ≡ Ok tt) × FoundWay w
  found w f = by (first_refusal (route_tests (asked m q) (length table))) refl
    where
      taken : Asked (asked m q) legs (gives way_given (Ok w)) legs' → FoundWay w
      taken (Routed.way v p e) = subst FoundWay (same_way (answer_apart (Ok w) (Ok v) e)) p
      taken (Routed.no_way p e) = absurd (never e)
      taken (Routed.no_room n p e) = absurd (never e)

      by : (t : Tested) → first_refusal (route_tests (asked m q) (length table)) ≡ t → (query_tested m q ≡ Ok tt) × FoundWay w
      by (Ok u) e = (same e, taken (f.does e).1)
      by (Err g) e = absurd (never (f.refuses g e))

  -- its line has room
  way_fits : (w : Way) → query_tested m q ≡ Ok tt → FoundWay w → WayFits w legs'
  way_fits w none p =
      let inside = goal_inside m q none in
      let few = few_legs m sound _ inside p.route in
      record {
        within = small_shortest m sound _ (λ x e. subst (λ (y : ℕ). y < cells m) (sym e) inside) _ _ p.route.first.route.short;
        few = omega (arith, p.count);
        there = omega (arith, p.count, ap length p.written, length-append (bytes p.legs) (drop (2 * length p.legs) legs), length_bytes p.legs);
      }

  pub fits : (a : Result Way Refusal) → Answers a → Fits a legs'
  fits (Ok w) f = let (none, p) = found w f in way_fits w none p
  fits (Err r) f = tt

  -- a refusal is the first that holds, or there is no way
  abbrev Says : (size number : ℕ) → Refusal → Type 0
  Says size number f = QueryNumbers m size number q (number ∷ number_of f ∷ [])

  refused_numbers : (size number : ℕ) (r : Refusal) → Answers (Err r) → Says size number r
  refused_numbers size number r f = by (first_refusal (route_tests (asked m q) (length table))) refl
    where
      nine : query_tested m q ≡ Ok tt → Asked (asked m q) legs (gives way_given (Err r)) legs' → Says size number r
      nine none (Routed.way v p e) = absurd (never (sym e))
      nine none (Routed.no_way p e) = subst (Says size number) (same_refusal e) (QueryNumbers.no_way none p.none)
      nine none (Routed.no_room n p e) = absurd (omega (arith, p.short, few_legs m sound _ (goal_inside m q none) p.route))

      by : (t : Tested) → first_refusal (route_tests (asked m q) (length table)) ≡ t → Says size number r
      by (Ok u) e = nine (same e) (f.does e).1
      by (Err g) e = subst (Says size number) (same_refusal (f.refuses g e)) (QueryNumbers.refused g (same e))

  -- a way's line is the query's
  way_line : (size number centimetres : ℕ) (w : Way) → query_tested m q ≡ Ok tt → FoundWay w → Spoken size w.length centimetres
      → QueryNumbers m size number q (way_numbers number centimetres w legs')
  way_line size number centimetres w none p s =
      let legs-there : take (2 * w.legs) legs' ≡ bytes p.legs =
      ap (take (2 * w.legs)) p.written
      ∙ take_at (bytes p.legs) (drop (2 * length p.legs) legs) (2 * w.legs) (omega (arith, length_bytes p.legs, p.count)) in
      subst (QueryNumbers m size number q)
      (ap₂ (λ (n : ℕ) (l : List ℕ). number ∷ 0 ∷ w.length.straight ∷ w.length.diagonal ∷ centimetres ∷ n ∷ l) (sym p.count) (sym legs-there))
      (QueryNumbers.way none w.length p.legs centimetres p.route s)

  pub query_line : (size number : ℕ) (a : Result Way Refusal) (l : List ℕ) → Answers a → AnswerLine size number legs' a l → QueryLine m size number q l
  query_line size number a l f (AnswerLine.way w n s) = let (none, p) = found w f in QueryLine.numbers _ (way_line size number n w none p s)
  query_line size number a l f (AnswerLine.refused r) = QueryLine.numbers _ (refused_numbers size number r f)
