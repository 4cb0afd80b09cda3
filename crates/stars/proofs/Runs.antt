-- The reader's run over a filled table, computed, and that its legs, cut as a case states them, are the first route's.
use mathlib.Core.Path.{◌≡◌, refl}
use mathlib.Core.Bool.{Bool, true, false, not, false≢true}
use mathlib.Core.List.{List, [], ◌∷◌}
use Prim.Native.Nat.{ℕ, ◌*◌, ◌≤◌, ◌<◌}
use borrow.Author.Tests.{eqb-true, eqb-false, ltb-true, not-true}
use lib.Dec.{eqb, ltb}
use lib.ListN.{get_or, length}
use Rattle.lengths.specs.declared.Length.{Length}
use Rattle.lengths.specs.Order.{zero_length, ◌⊕◌}
use Rattle.std.specs.Prelude.{Option, Some, None, Result, Ok, Err}
use Rattle.answers.specs.declared.Refusal.{Refusal}
use Rattle.answers.specs.declared.Refusal.TheVariants as refusal
use Rattle.answers.specs.Refusing.{gives}
use Rattle.answers.specs.Bools.{both}
use Rattle.answers.proofs.Bools.{both_true}
use Rattle.floor.specs.Floor.{Map, cells}
use Rattle.steps.specs.Heading.{weight}
use Rattle.steps.specs.inner.Ranking.{numbered}
use Rattle.floor.specs.inner.Ready.{SoundFloor}
use Rattle.steps.specs.inner.Leading.{lead_of}
use Rattle.steps.specs.Step.{steps_of}
use Rattle.steps.specs.Way.{Only}
use Rattle.table_theory.specs.Filled.{Filled}
use Rattle.route_walker.specs.Legs.{Leg, Proper, OtherFirst, join}
use Rattle.route_walker.specs.inner.Walkers.{Run, done, more, next}
use Rattle.route_walker.proofs.OnFloor.{first_run}
use Rattle.route_legs.specs.declared.Way.{Way}
use Rattle.route_legs.specs.inner.Reading.{ReadsRoute}
use Rattle.route_legs.proofs.Answering.{reads_no_way}
use Rattle.route.specs.Answers.{way_given, Routed, way, no_way}
use Rattle.stars.specs.Starred.{written}

-- these are the reader's headings from x
abbrev onward : Option ℕ → (ℕ → Bool) → Bool
onward None k = false
onward (Some y) k = k y

abbrev runs? : (ℕ → ℕ → Option ℕ) → List ℕ → ℕ → List ℕ → Bool
runs? lead t x [] = eqb (next lead t (λ i. i) x) 8
runs? lead t x (h ∷ hs) = both (eqb (next lead t (λ i. i) x) h) (both (ltb h 8) (onward (lead h x) (λ y. runs? lead t y hs)))

-- the length of headings
abbrev pub length_of : List ℕ → Length
length_of [] = zero_length
length_of (h ∷ hs) = length_of hs ⊕ weight h

runs : (lead : ℕ → ℕ → Option ℕ) (t : List ℕ) (x : ℕ) (hs : List ℕ) → runs? lead t x hs ≡ true → Run lead t (λ i. i) x hs (length_of hs)
runs lead t x [] e = done (eqb-true _ _ e)
runs lead t x (h ∷ hs) e =
    let (p, q) = both_true (eqb (next lead t (λ i. i) x) h) _ e in
    let (b, r) = both_true (ltb h 8) _ q in
    on (lead h x) refl (eqb-true _ _ p) (ltb-true h 8 b) r (λ y. runs lead t y hs)
  where
    on : (v : Option ℕ) → lead h x ≡ v → next lead t (λ i. i) x ≡ h → h < 8 → onward v (λ y. runs? lead t y hs) ≡ true
        → ((y : ℕ) → runs? lead t y hs ≡ true → Run lead t (λ i. i) y hs (length_of hs)) → Run lead t (λ i. i) x (h ∷ hs) (length_of hs ⊕ weight h)
    on None v p b r rest = absurd (false≢true r)
    on (Some y) v p b r rest = more p b v (rest y r)

-- each leg is a longest run
abbrev turns? : ℕ → List Leg → Bool
turns? h [] = true
turns? h (a ∷ ls) = not (eqb h a.heading)

abbrev proper? : List Leg → Bool
proper? [] = true
proper? (a ∷ ls) = both (ltb 0 a.count) (both (turns? a.heading ls) (proper? ls))

turns : (h : ℕ) (ls : List Leg) → turns? h ls ≡ true → OtherFirst h ls
turns h [] e = tt
turns h (a ∷ ls) e = eqb-false h a.heading (not-true (eqb h a.heading) e)

proper : (ls : List Leg) → proper? ls ≡ true → Proper ls
proper [] e = tt
proper (a ∷ ls) e =
    let (p, q) = both_true (ltb 0 a.count) _ e in
    let (r, s) = both_true (turns? a.heading ls) (proper? ls) q in
    (ltb-true 0 a.count p, (turns a.heading ls r, proper ls s))

-- what a case states is what the reader does from x: at the mark no way, and no legs; else the way with these legs
abbrev pub reads? : (ℕ → ℕ → Option ℕ) → List ℕ → ℕ → (none : Bool) → List Leg → Bool
reads? lead t x true [] = eqb (get_or t x 0) 4294967295
reads? lead t x true (a ∷ ls) = false
reads? lead t x false legs = both (not (eqb (get_or t x 0) 4294967295)) (both (runs? lead t x (join legs)) (proper? legs))

abbrev pub reading_of : (none : Bool) → List Leg → Result Way Refusal
reading_of true legs = Err refusal.NoWay
reading_of false legs = Ok (record { length = length_of (join legs); legs = length legs })

module _ (m : Map) (c : SoundFloor m) (goal : ℕ) (on : goal < cells m) (t : List ℕ) (f : Filled (steps_of m) (Only goal) (cells m) t) (start : ℕ)
    (b : start < cells m) where
  pub reads : (none : Bool) (legs : List Leg) → reads? (lead_of m) t start none legs ≡ true → (buffer : List ℕ) → 2 * length legs ≤ length buffer
      → ReadsRoute (steps_of m) (Only goal) (λ h. h) start buffer (reading_of none legs) (written legs buffer)
  reads true [] e buffer h = reads_no_way m c goal on t f numbered start b buffer (eqb-true _ _ e)
  reads true (a ∷ ls) e buffer h = absurd (false≢true e)
  reads false legs e buffer h =
      let (p, q) = both_true (not (eqb (get_or t start 0) 4294967295)) _ e in
      let (r, s) = both_true (runs? (lead_of m) t start (join legs)) (proper? legs) q in
      record {
        legs = legs;
        route = record {
          headings = join legs;
          first = first_run m c goal on t f numbered b (eqb-false _ _ (not-true _ p)) (runs (lead_of m) t start (join legs) r);
          legs_are = record { joined = refl; proper = proper legs s };
        };
        count = refl;
        room = h;
        written = refl;
      }

-- what reading answers is what the call gives
pub routed : (m : Map) (goal start : ℕ) (old new : List ℕ) (none : Bool) (legs : List Leg)
    → ReadsRoute (steps_of m) (Only goal) (λ h. h) start old (reading_of none legs) new
    → Routed (steps_of m) (Only goal) start old (gives way_given (reading_of none legs)) new
routed m goal start old new true legs p = no_way p refl
routed m goal start old new false legs p = way _ p refl
