-- What filling and checking a table give back, and what they leave in it.
use Rattle.std.specs.Prelude.{◌≡◌, List, [], ℕ, ◌<◌, length}
use Rattle.answers.specs.declared.Refusal.TheVariants.{TableWrong}
use Rattle.answers.specs.Refusing.{Given, done, refused, first_refusal, Answered, Tested, gives, no_values}
use Rattle.floor.specs.Floor.{cells, spot_cell}
use Rattle.calls.specs.Calls.{ToGoal, goal_tests}
use Rattle.steps.specs.Way.{Only}
use Rattle.steps.specs.Step.{steps_of}
use Rattle.table_theory.specs.Filled.{Filled}
use Rattle.table_theory.specs.Made.{Right, Judged}

-- filling: a refusal leaves the table as it was; else it is filled
abbrev pub Fills : ToGoal → (old : List ℕ) → Tested → (new : List ℕ) → Type 0
Fills a old r new =
    Answered (first_refusal (goal_tests a (length old))) (new ≡ old)
    (λ g. (g ≡ done []) × Filled (steps_of a.map) (Only (spot_cell a.map a.goal)) (cells a.map) new)
    (gives no_values r)

-- 11 with the lowest cell that differs: its entry is malformed or not what its neighbours make it; where none does,
-- what then follows
pub data Verdict (Right : ℕ → Type 0) (n : ℕ) (Kept : Type 0) (Then : Given → Type 0) (g : Given) : Type 0 where
  differs : (cell : ℕ) → cell < n → Judged Right n cell → g ≡ refused (TableWrong cell) → Kept → Verdict Right n Kept Then g
  right : Judged Right n n → Then g → Verdict Right n Kept Then g

-- checking: a verdict, unless the call is refused; the table is only read
abbrev pub Checks : ToGoal → (table : List ℕ) → Tested → Type 0
Checks a t r =
    Answered (first_refusal (goal_tests a (length t))) (Unit {0})
    (Verdict (Right (steps_of a.map) (Only (spot_cell a.map a.goal)) t) (cells a.map) (Unit {0}) (λ g. g ≡ done []))
    (gives no_values r)
