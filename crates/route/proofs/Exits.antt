-- What each way out of finding a route, and of a route from a table, shows once the tests are passed: what filling and
-- checking promise of the table, and what was read at the cells of the ends, said of the places.
use mathlib.Core.Path.{◌≡◌, refl, sym, ◌∙◌, ap, subst}
use mathlib.Core.List.{List, []}
use Prim.Native.Nat.{ℕ, ◌<◌}
use native.Mathlib.Decide.{ℕ_discrete}
use lib.ListN.{length}
use Rattle.std.specs.Prelude.{Result, Ok, Err, None}
use Rattle.answers.specs.declared.Refusal.{Refusal}
use Rattle.answers.specs.declared.Refusal.TheVariants as refusal
use Rattle.answers.specs.Refusing.{Tested, done, refused, first_refusal, gives, no_values}
use Rattle.answers.proofs.Refusals.{never, work_done}
use Rattle.floor.specs.Floor.{Map, cells, spot_cell}
use Rattle.floor.specs.declared.Spot.{Spot}
use Rattle.floor.specs.Lent.{floor_map}
use Rattle.calls.specs.declared.ends.Goal.{Goal}
use Rattle.calls.specs.declared.ends.Ends.{Ends}
use Rattle.calls.specs.Calls.{Route, route, route_tests}
use Rattle.calls.specs.inner.Tested.{Aimed, Placed}
use Rattle.calls.proofs.Called.{its_goal, route_goal}
use Rattle.steps.specs.Way.{Graph, Only}
use Rattle.steps.specs.Step.{steps_of}
use Rattle.steps.proofs.OnMap.{few_cells, stays_on_floor}
use Rattle.table_theory.specs.Filled.{Filled}
use Rattle.table_theory.specs.Made.{Right, Judged}
use Rattle.table_theory.specs.inner.First.{FirstWrong}
use Rattle.table_theory.proofs.Judging.{right_filled}
use Rattle.table.specs.Answers.{Fills, Checks, Verdict, differs, right}
use Rattle.table.proofs.Exits.{at_place}
use Rattle.route_legs.specs.declared.Way.{Way}
use Rattle.route_legs.specs.inner.Reading.{ReadsRoute}
use Rattle.route.specs.Answers.{way_given, Routed, way, no_way, no_room, Asked, Finds, ReadsTable}

-- a table that is right everywhere is filled
pub right_everywhere : (m : Map) (to : Spot) (g : Goal) (t : List ℕ) → Aimed m to (length t) g
    → FirstWrong (Right (steps_of (floor_map g.floor)) (Only g.cell) t) (cells (floor_map g.floor)) None
    → Filled (steps_of (floor_map g.floor)) (Only g.cell) (cells (floor_map g.floor)) t
right_everywhere m to g t aimed judged =
    let size : length t ≡ cells (floor_map g.floor) = aimed.size ∙ sym (ap cells aimed.map) in
    right_filled (steps_of (floor_map g.floor)) (Only g.cell) (λ z. ℕ_discrete z g.cell) (cells (floor_map g.floor)) (few_cells (floor_map g.floor) g.floor.sound)
    (stays_on_floor (floor_map g.floor)) (λ z e. subst (λ (w : ℕ). w < cells (floor_map g.floor)) (sym e) g.chosen.on) t size judged.before

-- what reading answers is what the call gives
routed : (G : Graph) (Goal : ℕ → Type 0) (start : ℕ) (old new : List ℕ) (r : Result Way Refusal) → ReadsRoute G Goal (λ h. h) start old r new
    → Routed G Goal start old (gives way_given r) new
routed G Goal start old new (Ok w) p = way w p refl
routed G Goal start old new (Err refusal.NoWay) p = no_way p refl
routed G Goal start old new (Err (refusal.LegsShort count)) p = no_room count p refl
routed G Goal start old new (Err f) p = absurd p

module _ (m : Map) (from to : Spot) (entries : ℕ) (e : Ends) (placed : Placed m from to entries e) where
  -- what is so of the map and the goal's place is so of the floor and its cell
  at_goal : (P : Map → ℕ → Type 0) → P m (spot_cell m to) → P (floor_map e.goal.floor) e.goal.cell
  at_goal P p = subst (λ (n : Map). P n e.goal.cell) (sym placed.aimed.map) (rw placed.aimed.cell p)

  -- what was read, said of the places
  pub asked : (old new : List ℕ) (r : Result Way Refusal)
      → ReadsRoute (steps_of (floor_map e.goal.floor)) (Only e.goal.cell) (λ h. h) e.start old r new
      → Asked (route m from to) old (gives way_given r) new
  asked old new r p =
      at_place m to entries e.goal placed.aimed (λ n x. Routed (steps_of n) (Only x) (spot_cell m from) old (gives way_given r) new)
      (rw placed.start at (routed _ _ _ old new r p))

module _ (m : Map) (from to : Spot) (table : List ℕ)
    (passed : first_refusal (route_tests (route m from to) (length table)) ≡ Ok tt) where
  abbrev a : Route
  a = route m from to

  -- what is asked of an entry
  abbrev RightAt : ℕ → Type 0
  RightAt = Right (steps_of m) (Only (spot_cell m to)) table

  -- filling is not refused
  fill_does : (r : Tested) (table' : List ℕ) → Fills (its_goal a) table r table'
      → (gives no_values r ≡ done []) × Filled (steps_of m) (Only (spot_cell m to)) (cells m) table'
  fill_does r table' f = f.does (route_goal a (length table) passed)

  pub fill_never : (f : Refusal) (table' : List ℕ) → Fills (its_goal a) table (Err f) table' → ⊥
  fill_never f table' s = never (sym (fill_does (Err f) table' s).0)

  -- what the check found
  verdict : (r : Tested) → Checks (its_goal a) table r
      → Verdict RightAt (cells m) (Unit {0}) (λ g. g ≡ done []) (gives no_values r)
  verdict r q = q.does (route_goal a (length table) passed)

  pub check_wrong : (legs : List ℕ) (f : Refusal) → Checks (its_goal a) table (Err f)
      → ReadsTable a table legs (Err f) legs
  check_wrong legs f q = work_done _ _ passed (by (verdict (Err f) q))
    where
      by : Verdict RightAt (cells m) (Unit {0}) (λ g. g ≡ done []) (refused f)
          → Verdict RightAt (cells m) (legs ≡ legs) (λ g. Asked a legs g legs) (refused f)
      by (differs x b j d k) = differs x b j d refl
      by (right j d) = absurd (never (sym d))

  pub checked : Checks (its_goal a) table (Ok tt) → Judged RightAt (cells m) (cells m)
  checked q = by (verdict (Ok tt) q)
    where
      by : Verdict RightAt (cells m) (Unit {0}) (λ g. g ≡ done []) (done []) → Judged RightAt (cells m) (cells m)
      by (differs x b j d k) = absurd (never d)
      by (right j d) = j

  module _ (e : Ends) (placed : Placed m from to (length table) e) where
    -- the table that was filled
    pub filled : (table' : List ℕ) → Fills (its_goal a) table (Ok tt) table'
        → Filled (steps_of (floor_map e.goal.floor)) (Only e.goal.cell) (cells (floor_map e.goal.floor)) table'
    filled table' f =
        at_goal m from to _ e placed (λ n x. Filled (steps_of n) (Only x) (cells n) table')
        (fill_does (Ok tt) table' f).1

    -- a table that is right is filled
    pub table_filled : Checks (its_goal a) table (Ok tt)
        → Filled (steps_of (floor_map e.goal.floor)) (Only e.goal.cell) (cells (floor_map e.goal.floor)) table
    table_filled q =
        right_everywhere m to e.goal table placed.aimed
        (at_goal m from to _ e placed (λ n x. Judged (Right (steps_of n) (Only x) table) (cells n) (cells n))
        (checked q))

    module _ (legs legs' : List ℕ) (r : Result Way Refusal)
        (read : ReadsRoute (steps_of (floor_map e.goal.floor)) (Only e.goal.cell) (λ h. h) e.start legs r legs') where
      pub find_done : (table' : List ℕ) → Fills (its_goal a) table (Ok tt) table' → Finds a table legs r table' legs'
      find_done table' f =
          work_done _ _ passed ((fill_does (Ok tt) table' f).1, asked m from to _ e placed legs legs' r read)

      pub read_done : Checks (its_goal a) table (Ok tt) → ReadsTable a table legs r legs'
      read_done q = work_done _ _ passed (right (checked q) (asked m from to _ e placed legs legs' r read))
