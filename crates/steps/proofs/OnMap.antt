-- The general laws at an accepted floor: steps can be walked back, a heading leads to one cell, and each part of a
-- shortest length is at most 16,383.
use Prim.Native.Nat.{ℕ, ◌≤◌, ◌<◌}
use native.Mathlib.Nat.{mul-le-mul}
use native.Mathlib.Omega.{arith}
use Rattle.lengths.specs.declared.Length.{Length}
use Rattle.lengths.specs.inner.AtMost.{Within}
use Rattle.floor.specs.Floor.{Map, cells}
use Rattle.steps.specs.Way.{Shortest}
use Rattle.steps.specs.Step.{steps_of}
use Rattle.floor.specs.inner.Ready.{SoundFloor}
use Rattle.steps.proofs.Ways.{Back}
use Rattle.steps.proofs.Bound.{bound}
use Rattle.steps.proofs.Grid.{inside, back}
use Rattle.steps.proofs.Leads.{floor}

pub few_cells : (m : Map) → SoundFloor m → cells m ≤ 16384
few_cells m s = omega (arith, mul-le-mul s.high s.wide)

pub walked_back : (m : Map) → Back (steps_of m)
walked_back m = back (floor m)

pub stays_on_floor : (m : Map) (h x y : ℕ) → (steps_of m).Step h x y → x < cells m
stays_on_floor m = inside (floor m)

pub small_shortest : (m : Map) → SoundFloor m → (Goal : ℕ → Type 0) → ((x : ℕ) → Goal x → x < cells m) → (x : ℕ) (l : Length) → Shortest (steps_of m) Goal x l
    → Within l
small_shortest m s Goal goal_inside x l short =
    let b = bound (steps_of m) Goal (cells m) (stays_on_floor m) goal_inside x l short in
    let n = few_cells m s in
    record { straight = omega arith; diagonal = omega arith }
