-- REFERENCE, "What `ways` prints": the first line.
use Rattle.std.specs.Prelude.{List, [], ◌∷◌, ℕ, eqb, Result, Ok, Err}
use Rattle.answers.specs.declared.Refusal.{Refusal}
use Rattle.answers.specs.Bools.{pick}
use Rattle.answers.specs.Numbers.{number_of, place_of}
use Rattle.plan.specs.declared.Plan.{Plan}
use Rattle.print_text.specs.Text.{line, word_line, floor_word}

-- "14" and the offset; another refusal's number alone
abbrev pub refusal_numbers : Refusal → List ℕ
refusal_numbers f = pick (eqb (number_of f) 14) (number_of f ∷ place_of f ∷ []) (number_of f ∷ [])

-- what the first line says: a refusal, or the plan whose floor it tells
abbrev pub Head : Type 0
Head = Result Plan Refusal

-- a refusal, or the line "floor", width, height, cell size
abbrev pub head_line : Head → List ℕ
head_line (Err f) = line (refusal_numbers f)
head_line (Ok p) = word_line floor_word (p.width ∷ p.height ∷ p.size ∷ [])
