-- `print_line::put_answer` meets its contract: each case writes its line.
use mathlib.Core.Path.{◌≡◌, subst}
use mathlib.Core.List.{List, [], ◌∷◌}
use Prim.Native.Nat.{ℕ}
use native.Mathlib.Omega.{arith}
use Rattle.std.specs.Prelude.{Err}
use Rattle.answers.specs.declared.Refusal.{Refusal}
use Rattle.answers.specs.Numbers.{number_of}
use Rattle.print_text.specs.Text.{line}
use Rattle.print_text.specs.declared.Page.{Page}
use Rattle.print_line.specs.inner.Written.{PutLine, Writes, AnswerLine}
use Rattle.print_line.proofs.put_answer.Goals as goal

-- a refusal's line, by the number that was read of it
refused_line : (size number : ℕ) (legs : List ℕ) (f : Refusal) (n : ℕ) {old new : Page} → n ≡ number_of f → PutLine old (line (number ∷ n ∷ [])) new
    → Writes (AnswerLine size number legs (Err f)) old new
refused_line size number legs f n {old} {new} e p =
    record { bytes = _; is = AnswerLine.refused f; line_put = subst (λ (k : ℕ). PutLine old (line (number ∷ k ∷ [])) new) e p }

pub returns-in-Ok : goal.returns-in-Ok
returns-in-Ok c = rw c.in-Ok.is (record { bytes = _; is = AnswerLine.way _ _ c.centimetres_of.ensures; line_put = c.put_way.ensures })

pub returns-in-Err : goal.returns-in-Err
returns-in-Err c =
    rw c.in-Err.is (refused_line _ _ _ _ _ c.number.ensures (record { wrote = c.put_line.ensures.wrote; fits = omega arith }))
