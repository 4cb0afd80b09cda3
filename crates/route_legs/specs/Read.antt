-- What reading a route from a table answers, and what it leaves in the leg buffer.
use Rattle.std.specs.Prelude.{◌≡◌, List, ◌++◌, ℕ, ◌*◌, ◌≤◌, ◌<◌, length, drop}
use Rattle.lengths.specs.declared.Length.{Length}
use Rattle.steps.specs.Way.{Graph, Reach}
use Rattle.route_walker.specs.Route.{FirstRoute}
use Rattle.route_walker.specs.Legs.{Leg, Legs, bytes}
use Rattle.route_legs.specs.declared.Way.{Way}

-- the first route from start to the goal, with its length and its legs
pub record Routes (G : Graph) (Goal : ℕ → Type 0) (rank : ℕ → ℕ) (start : ℕ) (size : Length) (legs : List Leg) : Type 0 where
  pub headings : List ℕ
  pub first : FirstRoute G Goal rank start headings size
  pub legs_are : Legs headings legs

-- a way: its length, how many legs it has, and these at the front of the buffer, with all behind them as it was
pub record Found (G : Graph) (Goal : ℕ → Type 0) (rank : ℕ → ℕ) (start : ℕ) (old : List ℕ) (w : Way) (new : List ℕ) : Type 0 where
  pub legs : List Leg
  pub route : Routes G Goal rank start w.length legs
  pub count : w.legs ≡ length legs
  pub room : 2 * length legs ≤ length old
  pub written : new ≡ bytes legs ++ drop (2 * length legs) old

-- no way
pub record NoWay (G : Graph) (Goal : ℕ → Type 0) (start : ℕ) (old new : List ℕ) : Type 0 where
  pub none : (l : Length) → ¬ Reach G Goal start l
  pub same : new ≡ old

-- the buffer has less than two bytes a leg
pub record NoRoom (G : Graph) (Goal : ℕ → Type 0) (rank : ℕ → ℕ) (start : ℕ) (old : List ℕ) (count : ℕ) (new : List ℕ) : Type 0 where
  pub size : Length
  pub legs : List Leg
  pub route : Routes G Goal rank start size legs
  pub counted : count ≡ length legs
  pub short : length old < 2 * length legs
  pub same : new ≡ old
