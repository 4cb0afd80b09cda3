-- One answer and one leg buffer at most: two first routes from the start are the same, so their lengths, their legs and
-- their legs' bytes are. Of the relation, over any rank of the headings and any goal cells, and of `read_route`'s
-- contract as the checker reads it.
use mathlib.Core.Path.{◌≡◌, refl, ap, ap₂, sym, subst, ◌∙◌}
use mathlib.Core.List.{List, ◌++◌}
use Prim.Native.Nat.{ℕ, ◌*◌, ◌<◌}
use native.Mathlib.Omega.{arith}
use lib.ListN.{length, drop}
use Rattle.std.specs.Prelude.{Result, Ok, Err}
use Rattle.answers.specs.declared.Refusal.{Refusal}
use Rattle.answers.specs.declared.Refusal.TheVariants as refusal
use Rattle.lengths.specs.declared.Length.{Length}
use Rattle.floor.specs.Floor.{Map}
use Rattle.steps.specs.Step.{steps_of}
use Rattle.steps.specs.Way.{Reach}
use Rattle.steps.proofs.Ways.{shortest_unique}
use Rattle.route_walker.specs.Legs.{Leg, Legs, bytes}
use Rattle.route_walker.proofs.OnFloor.{route_unique}
use Rattle.route_legs.specs.declared.Way.{Way}
use Rattle.route_legs.specs.Read.{Routes, Found, NoRoom}
use Rattle.route_legs.specs.inner.Reading.{ReadsRoute}
use Rattle.route_legs.proofs.LegsOf.{legs_unique}
use Rattle.route_legs.proofs.Readings.{ReadAs, a_way, no_way, no_room, read_as}
use Rattle.route_legs.proofs.read_route.Reads as read-route

module _ (m : Map) (Goal : ℕ → Type 0) (rank : ℕ → ℕ) (apart : (h k : ℕ) → h < 8 → k < 8 → rank h ≡ rank k → h ≡ k) (start : ℕ) (old : List ℕ) where
  abbrev RouteOf : Length → List Leg → Type 0
  RouteOf = Routes (steps_of m) Goal rank start

  abbrev Read : Result Way Refusal → List ℕ → Type 0
  Read = ReadAs (steps_of m) Goal rank start old

  abbrev FoundWay : Way → List ℕ → Type 0
  FoundWay = Found (steps_of m) Goal rank start old

  abbrev Short : ℕ → List ℕ → Type 0
  Short = NoRoom (steps_of m) Goal rank start old

  same_legs : {a b : Length} {ls ks : List Leg} → RouteOf a ls → RouteOf b ks → ls ≡ ks
  same_legs {ks = ks} p q =
      legs_unique p.legs_are (subst (λ (hs : List ℕ). Legs hs ks) (sym (route_unique m rank apart p.first q.first)) q.legs_are)

  same_length : {a b : Length} {ls ks : List Leg} → RouteOf a ls → RouteOf b ks → a ≡ b
  same_length p q = shortest_unique p.first.route.short q.first.route.short

  -- a route is a way
  has_way : {a : Length} {ls : List Leg} → RouteOf a ls → Reach (steps_of m) Goal start a
  has_way r = let short = r.first.route.short in short.way

  way_way : {w w' : Way} {x x' : List ℕ} → FoundWay w x → FoundWay w' x' → (w ≡ w') × (x ≡ x')
  way_way {w} {w'} p q =
      let e = same_legs p.route q.route in
      let n : w.legs ≡ w'.legs = p.count ∙ ap length e ∙ sym q.count in (
        ap₂ (λ (a : Length) (k : ℕ). record { length = a; legs = k }) (same_length p.route q.route) n,
        p.written ∙ ap (λ (ls : List Leg). bytes ls ++ drop (2 * length ls) old) e ∙ sym q.written,
      )

  way_room : {w : Way} {n : ℕ} {x x' : List ℕ} → FoundWay w x → Short n x' → ⊥
  way_room p q = omega (arith, p.room, q.short, ap length (same_legs p.route q.route))

  same : {r r' : Result Way Refusal} {x x' : List ℕ} → Read r x → Read r' x' → (r ≡ r') × (x ≡ x')
  same (a_way w p) (a_way w' q) = let (e, f) = way_way p q in (ap Ok e, f)
  same (a_way w p) (no_way q) = absurd (q.none w.length (has_way p.route))
  same (a_way w p) (no_room n q) = absurd (way_room p q)
  same (no_way p) (a_way w q) = absurd (p.none w.length (has_way q.route))
  same (no_way p) (no_way q) = (refl, p.same ∙ sym q.same)
  same (no_way p) (no_room n q) = absurd (p.none q.size (has_way q.route))
  same (no_room n p) (a_way w q) = absurd (way_room q p)
  same (no_room n p) (no_way q) = absurd (q.none p.size (has_way p.route))
  same (no_room n p) (no_room n' q) =
      (ap (λ (k : ℕ). Err (refusal.LegsShort k)) (p.counted ∙ ap length (same_legs p.route q.route) ∙ sym q.counted), p.same ∙ sym q.same)

  pub reads_only : (r r' : Result Way Refusal) (x x' : List ℕ) → ReadsRoute (steps_of m) Goal rank start old r x
      → ReadsRoute (steps_of m) Goal rank start old r' x' → (r ≡ r') × (x ≡ x')
  reads_only r r' x x' p q = same (read_as p) (read_as q)

pub read_route_only : (κs : _) (a : _) (r r' : _) (x x' : _) → read-route.Post κs a r x → read-route.Post κs a r' x'
    → (r ≡ r') × (x.1.1.1.1.0.now ≡ x'.1.1.1.1.0.now)
read_route_only κs a r r' x x' p q = reads_only _ _ (λ h. h) (λ h k b d e. e) _ _ r r' _ _ p q
