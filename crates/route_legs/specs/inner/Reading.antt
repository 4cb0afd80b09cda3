-- What reading a route from a table answers, as the reader tells it.
use Rattle.std.specs.Prelude.{List, ℕ, Result, Ok, Err}
use Rattle.answers.specs.declared.Refusal.{Refusal}
use Rattle.answers.specs.declared.Refusal.TheVariants as refusal
use Rattle.steps.specs.Way.{Graph}
use Rattle.route_legs.specs.declared.Way.{Way}
use Rattle.route_legs.specs.Read.{Found, NoWay, NoRoom}

-- a way, no way, or the leg count where the leg buffer is too short for it; nothing else
abbrev pub ReadsRoute : (G : Graph) (Goal : ℕ → Type 0) (rank : ℕ → ℕ) (start : ℕ) (old : List ℕ) → Result Way Refusal → (new : List ℕ) → Type 0
ReadsRoute G Goal rank start old (Ok w) new = Found G Goal rank start old w new
ReadsRoute G Goal rank start old (Err refusal.NoWay) new = NoWay G Goal start old new
ReadsRoute G Goal rank start old (Err (refusal.LegsShort n)) new = NoRoom G Goal rank start old n new
ReadsRoute G Goal rank start old (Err f) new = ⊥
