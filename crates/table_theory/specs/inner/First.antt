-- The lowest cell that is not right, as a call gives it back.
use Rattle.std.specs.Prelude.{Option, Some, None, ℕ, ◌<◌}
use Rattle.table_theory.specs.Made.{Judged}

-- the lowest number below n that is not right, where there is one
abbrev pub FirstWrong : (Right : ℕ → Type 0) (n : ℕ) → Option ℕ → Type 0
FirstWrong Right n (Some r) = (r < n) × Judged Right n r
FirstWrong Right n None = Judged Right n n
