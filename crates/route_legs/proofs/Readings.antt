-- What a reading can answer: a way, no way, or that the leg buffer is too short; no other refusal.
use mathlib.Core.List.{List}
use Prim.Native.Nat.{ℕ}
use Rattle.std.specs.Prelude.{Result, Ok, Err}
use Rattle.answers.specs.declared.Refusal.{Refusal}
use Rattle.answers.specs.declared.Refusal.TheVariants as refusal
use Rattle.steps.specs.Way.{Graph}
use Rattle.route_legs.specs.declared.Way.{Way}
use Rattle.route_legs.specs.Read.{Found, NoWay, NoRoom}
use Rattle.route_legs.specs.inner.Reading.{ReadsRoute}

pub data ReadAs (G : Graph) (Goal : ℕ → Type 0) (rank : ℕ → ℕ) (start : ℕ) (old : List ℕ) : Result Way Refusal → List ℕ → Type 0 where
  a_way : {new : List ℕ} (w : Way) → Found G Goal rank start old w new → ReadAs G Goal rank start old (Ok w) new
  no_way : {new : List ℕ} → NoWay G Goal start old new → ReadAs G Goal rank start old (Err refusal.NoWay) new
  no_room : {new : List ℕ} (n : ℕ) → NoRoom G Goal rank start old n new → ReadAs G Goal rank start old (Err (refusal.LegsShort n)) new

pub read_as : {G : Graph} {Goal : ℕ → Type 0} {rank : ℕ → ℕ} {start : ℕ} {old : List ℕ} {r : Result Way Refusal} {new : List ℕ}
    → ReadsRoute G Goal rank start old r new → ReadAs G Goal rank start old r new
read_as {r = Ok w} p = a_way w p
read_as {r = Err refusal.NoWay} p = no_way p
read_as {r = Err (refusal.LegsShort n)} p = no_room n p
read_as {r = Err f} p = absurd p
