-- How far apart two cells are: the room formula falls by a step's length at most, so that no way is shorter.
use mathlib.Core.Path.{◌≡◌, ap, sym, subst}
use Prim.Native.Nat.{ℕ, ◌%◌, ◌/◌, ◌≤◌}
use native.Mathlib.Omega.{arith}
use Rattle.lengths.specs.declared.Length.{Length}
use Rattle.lengths.specs.Order.{◌⊕◌, ◌⊑◌}
use Rattle.steps.specs.Heading.{change_of, by_parity, weight}
use Rattle.steps.specs.Way.{Way}
use Rattle.steps.specs.Step.{Moved}
use Rattle.steps.proofs.Grid.{Floor, graph}
use Rattle.steps.proofs.Headings.{Changes, changes_of, Slope, level, upright, slanted, slope}
use Rattle.rooms.proofs.RoomFormula.{distance, room_length, distance_self, formula_zero, Near, across, along, aslant, potential}

near : (k a b g : ℕ) → k ≤ 2 → Moved k a b → Near (distance a g) (distance b g)
unfolding distance
near k a b g h m = record { up = omega arith; down = omega arith }

still : (k a b g : ℕ) → k ≡ 1 → Moved k a b → distance a g ≡ distance b g
unfolding distance
still k a b g e m = omega arith

-- the room formula falls by a step's length at most
falls :
    (h c c' r r' gc gr : ℕ) → Changes h → Slope h → Moved (change_of h).column c c' → Moved (change_of h).row r r'
    → room_length (distance c gc) (distance r gr) ⊑ room_length (distance c' gc) (distance r' gr) ⊕ weight h
falls h c c' r r' gc gr k (upright e p) m n =
    subst (λ (w : Length). room_length (distance c gc) (distance r gr) ⊑ room_length (distance c' gc) (distance r' gr) ⊕ w) (sym (ap by_parity e))
    (along _ _ _ _ (still _ c c' gc p m) (near _ r r' gr k.flat n))
falls h c c' r r' gc gr k (level e p) m n =
    subst (λ (w : Length). room_length (distance c gc) (distance r gr) ⊑ room_length (distance c' gc) (distance r' gr) ⊕ w) (sym (ap by_parity e))
    (across _ _ _ _ (near _ c c' gc k.narrow m) (still _ r r' gr p n))
falls h c c' r r' gc gr k (slanted e p) m n =
    subst (λ (w : Length). room_length (distance c gc) (distance r gr) ⊑ room_length (distance c' gc) (distance r' gr) ⊕ w) (sym (ap by_parity e))
    (aslant _ _ _ _ (near _ c c' gc k.narrow m) (near _ r r' gr k.flat n))

-- the room formula between two cells
abbrev pub apart : Floor → ℕ → ℕ → Length
apart f g x = room_length (distance (x % f.width) (g % f.width)) (distance (x / f.width) (g / f.width))

-- it is not above any way
pub apart_least : (f : Floor) (x g : ℕ) (l : Length) → Way (graph f) x g l → apart f g x ⊑ l
apart_least f x g l w =
    potential (apart f g) (formula_zero _ _ (distance_self (g % f.width)) (distance_self (g / f.width)))
    (λ h x y s. falls h _ _ _ _ _ _ (changes_of h s.heading) (slope h s.heading) s.column s.row) w
