-- The work array before the first band and after the last one.
use Rattle.std.specs.Prelude.{◌≡◌, ◌⊎◌, List, ℕ, ◌*◌, ◌≤◌, ◌<◌, get_or, length}
use Rattle.fill_steps.specs.inner.Work.{unreached, largest, span, goal_number, stepped, highest, at, OffBorder, WorkStep, waiting}
use Rattle.fill_steps.specs.inner.Band.{Band, Listed}
use Rattle.fill_bands.specs.inner.Pass.{StepsDone}

-- a floor in the work array, with nothing reached but the goal's cells, and a queue that has room for all other cells,
-- and a place more
pub record Loaded (x q : List ℕ) : Type 0 where
  pub few : length x ≤ largest
  pub small : length q ≤ largest
  pub enough : waiting x < length q
  pub kinds : (z : ℕ) → (at x z ≡ goal_number) ⊎ ((at x z ≡ 0) ⊎ (at x z ≡ unreached))
  pub border : (z : ℕ) → 0 < at x z → OffBorder x z

-- z with the number v was reached by a step from another reached cell
pub record ReachedBy (floor x : List ℕ) (z v : ℕ) : Type 0 where
  pub heading : ℕ
  pub cell : ℕ
  pub step : WorkStep floor heading cell z
  pub found : at x cell < unreached
  pub sum : v ≡ stepped heading (at x cell)

-- after the last band: every reached cell but the goal's is a step from another, and no step would lower a cell
pub record Solved (floor x : List ℕ) : Type 0 where
  pub cells : length x ≡ length floor
  pub kinds : (z : ℕ) → at x z ≤ unreached
  pub free : (z : ℕ) → 0 < at floor z → 0 < at x z
  pub shut : (z : ℕ) → at floor z ≡ 0 → at x z ≡ 0
  pub start : (z : ℕ) → at floor z ≡ goal_number → at x z ≡ goal_number
  pub below : (z : ℕ) → at x z < unreached → at x z < highest
  pub support : (z : ℕ) → 0 < at x z → at x z < unreached → (at floor z ≡ goal_number) ⊎ ReachedBy floor x z (at x z)
  pub relaxed : (h a b : ℕ) → WorkStep floor h a b → at x a < unreached → at x b ≤ stepped h (at x a)

-- these are the goal's places, in any order: those that have the goal's number
pub record Goals (x goals : List ℕ) : Type 0 where
  pub few : length goals ≤ largest
  pub are : (i : ℕ) → i < length goals → at x (get_or goals i 0) ≡ goal_number
  pub all : (z : ℕ) → at x z ≡ goal_number → Listed goals 0 (length goals) z

-- the band of the goal's places alone
abbrev pub goal_band : List ℕ → Band
goal_band x = record { floor = x; before = x; end = 0; limit = 2 * span }

-- all of the goal's places have taken their steps
abbrev pub GoalsDone : (goals : List ℕ) (t : ℕ) (x q x' q' : List ℕ) (t' : ℕ) → Type 0
GoalsDone goals t x = StepsDone (goal_band x) goals 0 (length goals) x
