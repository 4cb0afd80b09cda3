-- What counting in a row promises, over what each call of a test may answer.
use Rattle.std.specs.Prelude.{◌≡◌, Bool, ℕ, ◌<◌}
use Rattle.answers.specs.Bools.{run}

-- n is the run of any test that each call answers
abbrev pub Counts : (Answers : ℕ → Bool → Type 0) → (most n : ℕ) → Type 0
Counts Answers most n = (test : ℕ → Bool) → ((i : ℕ) (b : Bool) → i < most → Answers i b → b ≡ test i) → n ≡ run test most
