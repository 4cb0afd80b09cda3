-- REFERENCE, "Headings and steps" and "Table": ways over any set of permitted steps, and the shortest length to any set of goal
-- cells.
use Rattle.std.specs.Prelude.{◌≡◌, ℕ}
use Rattle.lengths.specs.declared.Length.{Length}
use Rattle.lengths.specs.Order.{zero_length, ◌⊕◌, steps, ◌⊑◌}

-- a set of permitted steps: Step h x y says that heading h leads from cell x to cell y; each is one straight or one
-- diagonal step
pub record Graph : Type 1 where
  pub Step : ℕ → ℕ → ℕ → Type 0
  pub weight : ℕ → Length
  pub one : (h : ℕ) → steps (weight h) ≡ 1

-- Way G x y l: a chain of steps from x to y, of length l; a chain of none is a way from x to x
pub data Way (G : Graph) : ℕ → ℕ → Length → Type 0 where
  stay : {x : ℕ} → Way G x x zero_length
  step : {h x y z : ℕ} {l : Length} → G.Step h x y → Way G y z l → Way G x z (l ⊕ G.weight h)

-- a way from x to one of the goal's cells, of length l
abbrev pub Reach : Graph → (ℕ → Type 0) → ℕ → Length → Type 0
Reach G Goal x l = (g : ℕ) × Goal g × Way G x g l

-- l is the shortest length from x to the goal's cells: some way has it, and none is shorter
pub record Shortest (G : Graph) (Goal : ℕ → Type 0) (x : ℕ) (l : Length) : Type 0 where
  pub way : Reach G Goal x l
  pub least : (m : Length) → Reach G Goal x m → l ⊑ m

-- one goal cell
abbrev pub Only : ℕ → ℕ → Type 0
Only goal x = x ≡ goal
