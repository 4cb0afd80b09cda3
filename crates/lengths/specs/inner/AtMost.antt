-- What the inner functions ask of a length.
use Rattle.std.specs.Prelude.{ℕ, ◌≤◌}
use Rattle.lengths.specs.declared.Length.{Length}
use Rattle.lengths.specs.Answers.{way_part}

-- both parts are at most the limit
pub record AtMost (limit : ℕ) (l : Length) : Type 0 where
  pub straight : l.straight ≤ limit
  pub diagonal : l.diagonal ≤ limit

-- both are at most 16,383
abbrev pub Within : Length → Type 0
Within l = AtMost way_part l
