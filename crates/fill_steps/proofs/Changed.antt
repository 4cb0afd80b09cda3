-- A work array with one place changed: how many cells wait, and the room in the queue.
use Rattle.std.proofs.Common.{◌≡◌, ℕ, zero, suc, ◌+◌, ◌-◌, ◌/◌, ◌<◌, ◌≤◌, min, List, [], ◌∷◌, length, set, refl, ap, arith, length-set, Bool, true, false, IsTrue, ◌↔◌, ◌*◌}
use Rattle.std.proofs.lemmas.Bool.Decides.{nat_tests}
use mir.Val.{bool_byte}
use native.Mathlib.Decide.{dec_le}
use lib.Dec.{leb}
use lib.ListN.{get_or-eq_default}
use lib.Seq.{set_out}
use Rattle.fill_steps.specs.inner.Work.{unreached, at, waiting, QueueRoom}
use Rattle.fill_steps.specs.inner.Taken.{Lowered, OfferMade}

-- how many wait
pub waiting_set : (x : List ℕ) (a c : ℕ) → a < length x → waiting (set x a c) + at x a / unreached ≡ waiting x + c / unreached
unfolding waiting
waiting_set [] a c h = absurd (omega arith)
waiting_set (v ∷ x) zero c h = omega arith
waiting_set (v ∷ x) (suc a) c h = omega (arith, waiting_set x a c (omega arith))

pub waiting_none : (x : List ℕ) → ((z : ℕ) → at x z ≡ 0) → waiting x ≡ 0
unfolding waiting
waiting_none [] k = refl
waiting_none (v ∷ x) k = omega (arith, k 0, waiting_none x (λ z. k (suc z)))

-- the queue grows by the cells that no longer wait
pub room_offer :
    (x q : List ℕ) (t a b : ℕ) → b ≤ at x a → QueueRoom x q t → QueueRoom (set x a b) (set q t a) (t + (at x a / unreached - b / unreached))
room_offer x q t a b le r = record {
  few = omega (arith, length-set x a b, r.few);
  narrow = omega (arith, length-set q t a, r.narrow);
  enough = by (dec_le (suc a) (length x));
}
  where
    by : Dec (a < length x) → t + (at x a / unreached - b / unreached) + waiting (set x a b) < length (set q t a)
    by (yes h) = omega (arith, length-set q t a, r.enough, waiting_set x a b h)
    by (no h) =
        let k : length x ≤ a = omega arith in
        let e : at x a ≡ 0 = get_or-eq_default x 0 k in
        omega (arith, length-set q t a, r.enough, ap waiting (set_out x a b k))

-- a lower number leaves the room that there is
pub room_lower : (x q : List ℕ) (t a b : ℕ) → b ≤ at x a → QueueRoom x q t → QueueRoom (set x a b) q t
room_lower x q t a b le r =
    let o = room_offer x q t a b le r in
    record { few = o.few; narrow = r.narrow; enough = omega (arith, length-set q t a, o.enough) }

-- a place that was lowered was offered the number, if the queue's end moves on where the cell was not reached and now
-- is
pub lowered_made : (a c v t : ℕ) (x q x' q' : List ℕ) (t' t'' : ℕ) → QueueRoom x q t → Lowered a c v t x q x' q' t'
    → t'' ≡ t' + (v / unreached - min c v / unreached) → OfferMade a c t x q x' q' t''
lowered_made a c v t x q x' q' t' t'' r l e =
    let end : t'' ≡ t + (at x a / unreached - min c (at x a) / unreached) = rw (← l.before, ← l.end) e in
    record {
      cells = l.cells;
      queue = l.queue;
      end = end;
      room = rw (l.cells, l.queue, end) (room_offer x q t a (min c (at x a)) (omega arith) r);
    }

-- how far the queue's end moves on
pub new_counts : (b : Bool) (r v a : ℕ) → v < 2 * unreached → a ≤ v → r ≡ bool_byte b → (IsTrue b ↔ (unreached ≤ v) × (a < unreached))
    → r ≡ v / unreached - a / unreached
new_counts true r v a k l e f = let g = f.0 refl in omega arith
new_counts false r v a k l e f = by (dec_le unreached v) (dec_le unreached a)
  where
    by : Dec (unreached ≤ v) → Dec (unreached ≤ a) → r ≡ v / unreached - a / unreached
    by (yes m) (no n) = cc (f.1 (m, omega arith))
    by (no m) d = omega arith
    by (yes m) (yes n) = omega arith

pub all_count : (v : ℕ) → v < 2 * unreached → bool_byte (leb unreached v) ≡ v / unreached
all_count v k = grind (arith, nat_tests)
