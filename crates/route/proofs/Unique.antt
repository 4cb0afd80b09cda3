-- No second answer, table or leg buffer meets the contract of finding a route, nor that of a route from a table, each
-- as the checker reads it.
use mathlib.Core.Path.{◌≡◌, sym, ◌∙◌, ap, ap₂}
use mathlib.Core.List.{List, [], ◌∷◌}
use Prim.Native.Nat.{ℕ}
use Rattle.std.specs.Prelude.{Result, Ok, Err}
use Rattle.answers.specs.declared.Refusal.{Refusal}
use Rattle.answers.specs.declared.Refusal.TheVariants as refusal
use Rattle.answers.specs.Refusing.{Given, gives}
use Rattle.answers.proofs.Refusals.{answered_once, gives_apart}
use Rattle.lengths.specs.declared.Length.{Length}
use Rattle.floor.specs.Floor.{Map}
use Rattle.calls.specs.Calls.{Route}
use Rattle.steps.specs.Step.{steps_of}
use Rattle.table_theory.proofs.OneTable.{filled_unique}
use Rattle.table.proofs.Unique.{verdict_once}
use Rattle.route_legs.specs.declared.Way.{Way}
use Rattle.route_legs.specs.inner.Reading.{ReadsRoute}
use Rattle.route_legs.proofs.Unique.{reads_only}
use Rattle.route.specs.Answers.{way_given, Routed, way, no_way, no_room, Finds, ReadsTable}
use Rattle.route.proofs.find_route.Reads as find-reads
use Rattle.route.proofs.route_from_table.Reads as from-reads

-- what is given back tells ways apart
three : {a b c d e f : ℕ} → ◌≡◌ {A = List ℕ} (a ∷ b ∷ c ∷ []) (d ∷ e ∷ f ∷ []) → (a ≡ d) × (b ≡ e) × (c ≡ f)
three p = (cc, cc, cc)

way_apart : (w v : Way) → way_given w ≡ way_given v → w ≡ v
way_apart w v e =
    let (p, q, n) = three e in
    ap₂ (λ (l : Length) (k : ℕ). record { length = l; legs = k }) (ap₂ (λ (a b : ℕ). record { straight = a; diagonal = b }) p q) n

pub answer_apart : (r s : Result Way Refusal) → gives way_given r ≡ gives way_given s → r ≡ s
answer_apart = gives_apart way_given way_apart

module _ (m : Map) (Goal : ℕ → Type 0) (start : ℕ) (old : List ℕ) where
  -- what was given for a route is what was read
  back : (g : Given) (new : List ℕ) → Routed (steps_of m) Goal start old g new
      → (r : Result Way Refusal) × ReadsRoute (steps_of m) Goal (λ h. h) start old r new × (g ≡ gives way_given r)
  back g new (way w p e) = (Ok w, p, e)
  back g new (no_way p e) = (Err refusal.NoWay, p, e)
  back g new (no_room n p e) = (Err (refusal.LegsShort n), p, e)

  routed_only : (g h : Given) (new new' : List ℕ) → Routed (steps_of m) Goal start old g new → Routed (steps_of m) Goal start old h new'
      → (g ≡ h) × (new ≡ new')
  routed_only g h new new' p q =
      let (r, a, e) = back g new p in
      let (s, b, f) = back h new' q in
      let (c, d) = reads_only m Goal (λ h. h) (λ h k x y z. z) start old r s new new' a b in
      (e ∙ ap (λ (z : Result Way Refusal). gives way_given z) c ∙ sym f, d)

module _ (a : Route) (table legs : List ℕ) (r r' : Result Way Refusal) where
  pub finds_only : (t t' l l' : List ℕ) → Finds a table legs r t l → Finds a table legs r' t' l' → (r ≡ r') × ((t ≡ t') × (l ≡ l'))
  finds_only t t' l l' p q =
      let (g, b) = answered_once _ {Same = (t ≡ t') × (l ≡ l')} (λ k h. (k.0 ∙ sym h.0, k.1 ∙ sym h.1))
      (λ d e. let (c, s) = routed_only a.map _ _ legs _ _ l l' d.1 e.1 in (c, (filled_unique _ _ _ t t' d.0 e.0, s))) p q in
      (answer_apart r r' g, b)

  pub reads_table_only : (l l' : List ℕ) → ReadsTable a table legs r l → ReadsTable a table legs r' l' → (r ≡ r') × (l ≡ l')
  reads_table_only l l' p q =
      let (g, b) = answered_once _ (λ k h. k ∙ sym h) (verdict_once _ _ _ _ (λ k h. k ∙ sym h) (routed_only a.map _ _ legs _ _ l l')) p q in
      (answer_apart r r' g, b)

pub find_route_only : (κs : _) (a : _) (r r' : _) (x x' : _) → find-reads.Post κs a r x → find-reads.Post κs a r' x'
    → (r ≡ r')
    × ((x.1.1.1.0.now ≡ x'.1.1.1.0.now) × (x.1.1.1.1.0.now ≡ x'.1.1.1.1.0.now))
find_route_only κs a r r' x x' p q = finds_only _ _ _ r r' _ _ _ _ p q

pub route_from_table_only : (κs : _) (a : _) (r r' : _) (x x' : _) → from-reads.Post κs a r x → from-reads.Post κs a r' x'
    → (r ≡ r') × (x.1.1.1.1.0.now ≡ x'.1.1.1.1.0.now)
route_from_table_only κs a r r' x x' p q = reads_table_only _ _ _ r r' _ _ p q
