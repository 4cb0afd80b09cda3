-- Each line has one text at most: bytes have one reading, and a query has one answer.
use mathlib.Core.Path.{◌≡◌, refl, ap, subst, sym, ◌∙◌}
use mathlib.Core.List.{List, [], ◌∷◌}
use Prim.Native.Nat.{ℕ, suc}
use native.Mathlib.Omega.{arith}
use lib.ListN.{length, get_or}
use Rattle.std.specs.Prelude.{Err}
use Rattle.answers.specs.Numbers.{number_of}
use Rattle.answers.specs.declared.Refusal.{Refusal}
use Rattle.answers.specs.Refusing.{Tested, first_refusal}
use Rattle.answers.proofs.Refusals.{not_passed}
use Rattle.lengths.specs.declared.Length.{Length}
use Rattle.lengths.specs.Distance.{Spoken}
use Rattle.lengths.proofs.Rounding.{spoken_unique}
use Rattle.floor.specs.Floor.{Map}
use Rattle.steps.specs.Way.{Only}
use Rattle.steps.specs.Step.{steps_of}
use Rattle.steps.proofs.Ways.{shortest_unique}
use Rattle.plan.specs.declared.Query.{Query}
use Rattle.plan.specs.Sound.{Contents}
use Rattle.plan.specs.Reads.{plan_of}
use Rattle.plan.proofs.Only.{not_both, one_break, one_contents}
use Rattle.route_walker.specs.Legs.{Leg, Legs, bytes}
use Rattle.route_walker.proofs.OnFloor.{route_unique}
use Rattle.route_legs.specs.Read.{Routes}
use Rattle.route_legs.proofs.LegsOf.{legs_unique}
use Rattle.print_text.specs.Text.{line}
use Rattle.print_line.specs.Head.{Head, head_line}
use Rattle.print_plan.specs.Query.{start_cell, goal_cell, QueryNumbers}
use Rattle.print_plan.specs.Lines.{map_in, plan_tests, plan_head, broken_head, Heads, no_query, LineAt}

same_refusal : {f g : Refusal} → ◌≡◌ {A = Tested} (Err f) (Err g) → f ≡ g
same_refusal e = cc

-- a query has one answer
module _ (m : Map) (size number : ℕ) (q : Query) where
  abbrev Route : Length → List Leg → Type 0
  Route = Routes (steps_of m) (Only (goal_cell m q)) (λ h. h) (start_cell m q)

  same_legs : {a b : Length} {ls ks : List Leg} → Route a ls → Route b ks → ls ≡ ks
  same_legs {ks = ks} p r =
      legs_unique p.legs_are (subst (λ (hs : List ℕ). Legs hs ks) (sym (route_unique m (λ h. h) (λ h k b d e. e) p.first r.first)) r.legs_are)

  same_length : {a b : Length} {ls ks : List Leg} → Route a ls → Route b ks → a ≡ b
  same_length p r = shortest_unique p.first.route.short r.first.route.short

  way_numbers : Length → List Leg → ℕ → List ℕ
  way_numbers l legs centimetres = number ∷ 0 ∷ l.straight ∷ l.diagonal ∷ centimetres ∷ length legs ∷ bytes legs

  same_numbers : {l k : Length} {ls ks : List Leg} {c d : ℕ} → l ≡ k → ls ≡ ks → c ≡ d → way_numbers l ls c ≡ way_numbers k ks d
  same_numbers e f g = λ i. way_numbers (e i) (f i) (g i)

  pub one_query : {ns ks : List ℕ} → QueryNumbers m size number q ns → QueryNumbers m size number q ks → ns ≡ ks
  unfolding way_numbers
  one_query (QueryNumbers.refused f a) (QueryNumbers.refused g b) = ap (λ (x : Refusal). number ∷ number_of x ∷ []) (same_refusal (sym a ∙ b))
  one_query (QueryNumbers.refused f a) (QueryNumbers.no_way z n) = absurd (not_passed (sym a ∙ z))
  one_query (QueryNumbers.refused f a) (QueryNumbers.way z l ls c r s) = absurd (not_passed (sym a ∙ z))
  one_query (QueryNumbers.no_way y m) (QueryNumbers.refused g b) = absurd (not_passed (sym b ∙ y))
  one_query (QueryNumbers.no_way y m) (QueryNumbers.no_way z n) = refl
  one_query (QueryNumbers.no_way y m) (QueryNumbers.way z l ls c r s) = absurd (m l r.first.route.short.way)
  one_query (QueryNumbers.way y l ls c r s) (QueryNumbers.refused g b) = absurd (not_passed (sym b ∙ y))
  one_query (QueryNumbers.way y l ls c r s) (QueryNumbers.no_way z n) = absurd (n l r.first.route.short.way)
  one_query (QueryNumbers.way y l ls c r s) (QueryNumbers.way z k ks d t u) =
      let e = same_length r t in
      same_numbers e (same_legs r t) (spoken_unique size k c d (subst (λ (a : Length). Spoken size a c) e s) u)

module _ {input : List ℕ} where
  -- the first line says one thing
  pub one_head : {h k : Head} → Heads input h → Heads input k → h ≡ k
  one_head (Heads.too_long b e) (Heads.too_long d f) = e ∙ sym f
  one_head (Heads.too_long b e) (Heads.broken at d p f) = absurd (omega arith)
  one_head (Heads.too_long b e) (Heads.sound c d s f) = absurd (omega arith)
  one_head (Heads.broken at b p e) (Heads.too_long d f) = absurd (omega arith)
  one_head (Heads.broken at b p e) (Heads.broken k d r f) = e ∙ ap broken_head (one_break p r) ∙ sym f
  one_head (Heads.broken at b p e) (Heads.sound c d s f) = absurd (not_both s p)
  one_head (Heads.sound c b s e) (Heads.too_long d f) = absurd (omega arith)
  one_head (Heads.sound c b s e) (Heads.broken at d p f) = absurd (not_both s p)
  one_head (Heads.sound c b s e) (Heads.sound d g t f) =
      e ∙ ap (λ (x : Contents). plan_head (first_refusal (plan_tests (map_in x) x.size)) (plan_of x)) (one_contents s t) ∙ sym f

  pub one_line : {i : ℕ} {l k : List ℕ} → LineAt input i l → LineAt input i k → l ≡ k
  one_line (LineAt.first h a) (LineAt.first k b) = ap head_line (one_head a b)
  one_line (LineAt.query c i ns s a h p) (LineAt.query d n ks t b j g) =
      ap line
      (one_query (map_in c) c.size (suc i) (get_or c.queries i no_query) p
      (subst (λ (x : Contents). QueryNumbers (map_in x) x.size (suc i) (get_or x.queries i no_query) ks) (one_contents t s) g))
