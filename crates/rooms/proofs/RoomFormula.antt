-- The room formula: (|dx − dy|, the lesser of dx and dy) is not above any way, by the steps' column and row changes.
use mathlib.Core.Path.{◌≡◌, sym, subst}
use Prim.Native.Nat.{ℕ, suc, ◌+◌, ◌-◌, min, ◌≤◌}
use native.Mathlib.Omega.{arith}
use Rattle.lengths.specs.declared.Length.{Length}
use Rattle.lengths.specs.Order.{zero_length, ◌⊕◌, ◌⊑◌}
use Rattle.lengths.proofs.Order.{length_ext, ⊑_refl, ⊑_trans, ⊕_mono, by_steps, by_doubles}
use Rattle.steps.specs.Way.{Graph, Way, stay, step}

-- one straight step, one diagonal step
abbrev pub straight_step : Length
straight_step = record { straight = 1; diagonal = 0 }

abbrev pub diagonal_step : Length
diagonal_step = record { straight = 0; diagonal = 1 }

-- the distance of two columns, or of two rows
unfoldable pub distance : ℕ → ℕ → ℕ
distance a b = (a - b) + (b - a)

-- between two cells of one room the shortest length is (|dx − dy|, the lesser of dx and dy)
abbrev pub room_length : ℕ → ℕ → Length
room_length dx dy = record { straight = distance dx dy; diagonal = min dx dy }

pub distance_self : (a : ℕ) → distance a a ≡ 0
unfolding distance
distance_self a = omega arith

-- at most one apart
pub record Near (a b : ℕ) : Type 0 where
  pub up : a ≤ b + 1
  pub down : b ≤ a + 1

pub across : (dx dy ex ey : ℕ) → Near dx ex → dy ≡ ey → room_length dx dy ⊑ room_length ex ey ⊕ straight_step
unfolding distance
across dx dy ex ey h e = by_doubles (room_length dx dy) (room_length ex ey ⊕ straight_step) (omega arith) (omega arith)

pub along : (dx dy ex ey : ℕ) → dx ≡ ex → Near dy ey → room_length dx dy ⊑ room_length ex ey ⊕ straight_step
unfolding distance
along dx dy ex ey e h = by_doubles (room_length dx dy) (room_length ex ey ⊕ straight_step) (omega arith) (omega arith)

pub aslant : (dx dy ex ey : ℕ) → Near dx ex → Near dy ey → room_length dx dy ⊑ room_length ex ey ⊕ diagonal_step
unfolding distance
aslant dx dy ex ey h k = by_steps (room_length dx dy) (room_length ex ey ⊕ diagonal_step) (omega arith) (omega arith)

-- the room formula after a step towards the goal
pub formula_up : (dx dy ey : ℕ) → dx ≡ 0 → dy ≡ suc ey → room_length dx ey ⊕ straight_step ≡ room_length dx dy
unfolding distance
formula_up dx dy ey p q = length_ext (omega arith) (omega arith)

pub formula_level : (dx dy ex : ℕ) → dy ≡ 0 → dx ≡ suc ex → room_length ex dy ⊕ straight_step ≡ room_length dx dy
unfolding distance
formula_level dx dy ex p q = length_ext (omega arith) (omega arith)

pub formula_slant : (dx dy ex ey : ℕ) → dx ≡ suc ex → dy ≡ suc ey → room_length ex ey ⊕ diagonal_step ≡ room_length dx dy
unfolding distance
formula_slant dx dy ex ey p q = length_ext (omega arith) (omega arith)

pub formula_zero : (dx dy : ℕ) → dx ≡ 0 → dy ≡ 0 → room_length dx dy ≡ zero_length
unfolding distance
formula_zero dx dy p q = length_ext (omega arith) (omega arith)

-- a number for each cell that falls by no more than a step's length is not above any way to a cell where it is zero
pub potential : {G : Graph} {x g : ℕ} {l : Length} (π : ℕ → Length) → π g ≡ zero_length
    → ((h x y : ℕ) → G.Step h x y → π x ⊑ π y ⊕ G.weight h) → Way G x g l → π x ⊑ l
potential π at-end lip stay = subst (λ (z : Length). z ⊑ zero_length) (sym at-end) (⊑_refl zero_length)
potential {G} π at-end lip (step {h = h} {x = x} {y = y} s w) = ⊑_trans (lip h x y s) (⊕_mono (G.weight h) (potential π at-end lip w))
