-- What filling and checking have done at the cell of the goal, said of the goal's place.
use mathlib.Core.Path.{refl, subst}
use mathlib.Core.List.{List}
use Prim.Native.Nat.{ℕ}
use Rattle.std.specs.Prelude.{Some}
use Rattle.answers.specs.declared.Refusal.TheVariants.{TableWrong}
use Rattle.answers.specs.Refusing.{Given, refused}
use Rattle.floor.specs.Floor.{Map, cells, spot_cell}
use Rattle.floor.specs.declared.Spot.{Spot}
use Rattle.floor.specs.Lent.{floor_map}
use Rattle.calls.specs.declared.ends.Goal.{Goal}
use Rattle.calls.specs.inner.Tested.{Aimed}
use Rattle.steps.specs.Way.{Only}
use Rattle.steps.specs.Step.{steps_of}
use Rattle.table_theory.specs.Made.{Right}
use Rattle.table_theory.specs.inner.First.{FirstWrong}
use Rattle.table.specs.Answers.{Verdict, differs}

module _ (m : Map) (s : Spot) (entries : ℕ) (g : Goal) (aimed : Aimed m s entries g) where
  -- what is so of the floor and its cell is so of the map and the place
  pub at_place : (P : Map → ℕ → Type 0) → P (floor_map g.floor) g.cell → P m (spot_cell m s)
  at_place P p = rw aimed.cell at (subst (λ (n : Map). P n g.cell) aimed.map p)

  -- the lowest cell that is not right is the verdict
  pub found_wrong : {K : Type 0} {T : Given → Type 0} (t : List ℕ) (x : ℕ)
      → FirstWrong (Right (steps_of (floor_map g.floor)) (Only g.cell) t) (cells (floor_map g.floor)) (Some x) → K
      → Verdict (Right (steps_of m) (Only (spot_cell m s)) t) (cells m) K T (refused (TableWrong x))
  found_wrong t x w k =
      let (under, judged) = at_place (λ n y. FirstWrong (Right (steps_of n) (Only y) t) (cells n) (Some x)) w in
      differs x under judged refl k
