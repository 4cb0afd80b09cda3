-- No second struct, and no second contents of a buffer, meets the contract of an exported function, as the checker
-- reads it: what a struct shows is one answer, by the uniqueness of its Rattle function.
use mathlib.Core.Path.{◌≡◌, sym, ◌∙◌, ap}
use Rattle.lengths.proofs.Unique.{compares_only, speaks_only}
use Rattle.table.proofs.Unique.{fills_only, checks_only}
use Rattle.route.proofs.Unique.{finds_only, reads_table_only}
use Rattle.rooms.proofs.Unique.{rooms_only}
use Rattle.plan.proofs.Only.{reads_only}
use Rattle.plan.proofs.Unique.{asks_only}
use Rattle.headset.specs.Shown.{Shows, compare_answer, distance_answer, number_of, check_answer, route_answer, room_answer, plan_answer, query_answer}
use Rattle.headset.proofs.ways_compare.Reads as compare-reads
use Rattle.headset.proofs.ways_distance.Reads as distance-reads
use Rattle.headset.proofs.ways_fill.Reads as fill-reads
use Rattle.headset.proofs.ways_check.Reads as check-reads
use Rattle.headset.proofs.ways_find_route.Reads as find-reads
use Rattle.headset.proofs.ways_route_from_table.Reads as from-reads
use Rattle.headset.proofs.ways_room.Reads as room-reads
use Rattle.headset.proofs.ways_read_plan.Reads as plan-reads
use Rattle.headset.proofs.ways_query.Reads as query-reads

module _ {A S : Type 0} (shown : A → S) {P Q : A → Type 0} where
  -- where there is one answer, which leaves the buffers in one state (Same), one struct shows it
  shows_once : {Same : Type 0} → ((a b : A) → P a → Q b → (a ≡ b) × Same) → (s t : S) → Shows shown P s → Shows shown Q t → (s ≡ t) × Same
  shows_once one s t p q =
      let (a, e, x) = p in
      let (b, f, y) = q in
      let (c, d) = one a b x y in
      (e ∙ ap shown c ∙ sym f, d)

  -- the same where there are no buffers
  shows_one : ((a b : A) → P a → Q b → a ≡ b) → (s t : S) → Shows shown P s → Shows shown Q t → s ≡ t
  shows_one one s t p q = (shows_once (λ a b x y. (one a b x y, tt {0})) s t p q).0

pub compare_only : (κs : _) (a : _) (r r' : _) (x x' : _) → compare-reads.Post κs a r x → compare-reads.Post κs a r' x' → r ≡ r'
compare_only κs a r r' x x' p q = shows_one compare_answer (compares_only _ _) r r' p q

pub distance_only : (κs : _) (a : _) (r r' : _) (x x' : _) → distance-reads.Post κs a r x → distance-reads.Post κs a r' x' → r ≡ r'
distance_only κs a r r' x x' p q = shows_one distance_answer (speaks_only _ _) r r' p q

pub room_only : (κs : _) (a : _) (r r' : _) (x x' : _) → room-reads.Post κs a r x → room-reads.Post κs a r' x' → r ≡ r'
room_only κs a r r' x x' p q = shows_one room_answer (rooms_only _ _) r r' p q

pub plan_only : (κs : _) (a : _) (r r' : _) (x x' : _) → plan-reads.Post κs a r x → plan-reads.Post κs a r' x' → r ≡ r'
plan_only κs a r r' x x' p q = shows_one plan_answer (reads_only _) r r' p q

pub query_only : (κs : _) (a : _) (r r' : _) (x x' : _) → query-reads.Post κs a r x → query-reads.Post κs a r' x' → r ≡ r'
query_only κs a r r' x x' p q = shows_one query_answer (asks_only _ _) r r' p q

pub check_only : (κs : _) (a : _) (r r' : _) (x x' : _) → check-reads.Post κs a r x → check-reads.Post κs a r' x' → r ≡ r'
check_only κs a r r' x x' p q = shows_one check_answer (checks_only _ _) r r' p q

pub fill_only : (κs : _) (a : _) (r r' : _) (x x' : _) → fill-reads.Post κs a r x → fill-reads.Post κs a r' x'
    → (r ≡ r') × (x.1.1.1.1.1.0.now ≡ x'.1.1.1.1.1.0.now)
fill_only κs a r r' x x' p q = shows_once number_of (λ u v. fills_only _ _ u v _ _) r r' p q

pub find_route_only : (κs : _) (a : _) (r r' : _) (x x' : _) → find-reads.Post κs a r x → find-reads.Post κs a r' x'
    → (r ≡ r')
    × ((x.1.1.1.1.1.1.1.0.now ≡ x'.1.1.1.1.1.1.1.0.now) × (x.1.1.1.1.1.1.1.1.0.now ≡ x'.1.1.1.1.1.1.1.1.0.now))
find_route_only κs a r r' x x' p q = shows_once route_answer (λ u v. finds_only _ _ _ u v _ _ _ _) r r' p q

pub route_from_table_only : (κs : _) (a : _) (r r' : _) (x x' : _) → from-reads.Post κs a r x → from-reads.Post κs a r' x'
    → (r ≡ r') × (x.1.1.1.1.1.1.1.1.0.now ≡ x'.1.1.1.1.1.1.1.1.0.now)
route_from_table_only κs a r r' x x' p q = shows_once route_answer (λ u v. reads_table_only _ _ _ u v _ _) r r' p q
