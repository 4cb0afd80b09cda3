-- What finding a route, and a route from a table, give back, and what they leave in table and leg buffer.
use Rattle.std.specs.Prelude.{◌≡◌, List, [], ◌∷◌, ℕ, length, Result}
use Rattle.answers.specs.declared.Refusal.{Refusal}
use Rattle.answers.specs.declared.Refusal.TheVariants as refusal
use Rattle.answers.specs.Refusing.{Given, done, refused, first_refusal, Answered, gives}
use Rattle.floor.specs.Floor.{cells, spot_cell}
use Rattle.calls.specs.Calls.{Route, route_tests}
use Rattle.steps.specs.Way.{Graph, Only}
use Rattle.steps.specs.Step.{steps_of}
use Rattle.table_theory.specs.Filled.{Filled}
use Rattle.table_theory.specs.Made.{Right}
use Rattle.table.specs.Answers.{Verdict}
use Rattle.route_legs.specs.declared.Way.{Way}
use Rattle.route_legs.specs.Read.{Found, NoWay, NoRoom}

-- a way gives its length and how many legs it has
abbrev pub way_given : Way → List ℕ
way_given w = w.length.straight ∷ w.length.diagonal ∷ w.legs ∷ []

-- the first route, in the order of the headings' numbers, in the buffer; or 9, or 10 with the leg count, and the legs
-- unchanged
pub data Routed (G : Graph) (Goal : ℕ → Type 0) (start : ℕ) (old : List ℕ) (g : Given) (new : List ℕ) : Type 0 where
  way : (w : Way) → Found G Goal (λ h. h) start old w new → g ≡ done (way_given w) → Routed G Goal start old g new
  no_way : NoWay G Goal start old new → g ≡ refused refusal.NoWay → Routed G Goal start old g new
  no_room : (count : ℕ) → NoRoom G Goal (λ h. h) start old count new → g ≡ refused (refusal.LegsShort count) → Routed G Goal start old g new

-- the way asked for: from the start's cell to the goal's
abbrev pub Asked : Route → (legs : List ℕ) → Given → (legs' : List ℕ) → Type 0
Asked a = Routed (steps_of a.map) (Only (spot_cell a.map a.goal)) (spot_cell a.map a.start)

-- finding a route: 1 to 8 leave table and legs as they were; else the table is filled
abbrev pub Finds : Route → (table legs : List ℕ) → Result Way Refusal → (table' legs' : List ℕ) → Type 0
Finds a table legs r table' legs' =
    Answered (first_refusal (route_tests a (length table))) ((table' ≡ table) × (legs' ≡ legs))
    (λ g. Filled (steps_of a.map) (Only (spot_cell a.map a.goal)) (cells a.map) table' × Asked a legs g legs')
    (gives way_given r)

-- a route from a table: 1 to 8, then 11, 9, 10; the table is only read
abbrev pub ReadsTable : Route → (table legs : List ℕ) → Result Way Refusal → (legs' : List ℕ) → Type 0
ReadsTable a table legs r legs' =
    Answered (first_refusal (route_tests a (length table))) (legs' ≡ legs)
    (Verdict (Right (steps_of a.map) (Only (spot_cell a.map a.goal)) table) (cells a.map) (legs' ≡ legs) (λ g. Asked a legs g legs'))
    (gives way_given r)
