-- From the map to the table: the loaded work array is the floor, so what the bands leave is the shortest lengths, and
-- what is stored says so.
use mathlib.Core.Path.{◌≡◌, refl, ap, ap₂, sym, subst, subst₂, ◌∙◌}
use mathlib.Core.Logic.{◌⊎◌, inl, inr}
use mathlib.Core.Bool.{Bool, true, false}
use mathlib.Core.List.{List, [], ◌∷◌}
use Prim.Native.Nat.{ℕ, suc, ◌+◌, ◌-◌, ◌*◌, ◌/◌, ◌%◌, ◌≤◌, ◌<◌}
use native.Mathlib.Omega.{arith}
use native.Mathlib.Nat.{mod-lt, mul-le-mul, zero-add}
use lib.ListN.{get_or, length, set, length-set, replicate, length-replicate, get_or-replicate, get_or-eq_default}
use native.Mathlib.Decide.{dec_le, ℕ_discrete}
use lib.Seq.{get_or-set_same}
use lib.Dec.{T as Holds}
use borrow.Author.Tests.{lt-ltb}
use Rattle.floor.specs.Floor.{Map, open?, cells}
use Rattle.floor.specs.Lent.{floor_map}
use Rattle.floor.specs.inner.Ready.{Ready}
use Rattle.calls.specs.declared.ends.Goal.{Goal}
use Rattle.steps.specs.inner.Leading.{open_past}
use Rattle.steps.specs.Step.{steps_of}
use Rattle.steps.specs.Way.{Only}
use Rattle.steps.proofs.Leads.{open_column, open_row, floor, Past, past}
use Rattle.table_theory.specs.Filled.{Filled}
use Rattle.table_theory.proofs.Lists.{get_or_any, each}
use Rattle.fill_steps.specs.inner.Work.{unreached, stride, largest, goal_number, at, spot, OffBorder}
use Rattle.fill_bands.specs.inner.Solved.{Loaded, Goals, Solved}
use Rattle.fill_load.specs.inner.Load.{number_of, loaded, Tall, Cleared, Prefix}
use Rattle.table_theory.specs.inner.Written.{Written}
use Rattle.fill_entries.specs.inner.Entries.{entry_of, AllSettled, entry_of_cell}
use Rattle.fill_steps.proofs.Changed.{waiting_set}
use Rattle.fill_table.proofs.OnWork.{Mapped, place_of, same_cell}
use Rattle.fill_table.proofs.Shortest.{keyed, GoalNumbers, says}
use Rattle.fill_load.proofs.MapLoaded.{prefix_all}

number_holds : (t : Bool) → 0 < number_of t → Holds t
number_holds true o = tt
number_holds false o = absurd (omega arith)

number_kinds : (t : Bool) → (number_of t ≡ 0) ⊎ (number_of t ≡ unreached)
number_kinds true = inr refl
number_kinds false = inl refl

holds_number : (t : Bool) → Holds t → number_of t ≡ unreached
holds_number true t = refl
holds_number false t = absurd t

-- a place of a cell is read back
loaded_spot : (m : Map) (c r : ℕ) → c + 1 < stride → loaded m (spot c r) ≡ number_of (open? m c r)
unfolding loaded open_past
loaded_spot m c r k =
    let e : spot c r % stride ≡ suc c = omega arith in
    let f : spot c r / stride ≡ suc r = omega arith in
    let c' : suc c - 1 ≡ c = omega arith in
    let r' : suc r - 1 ≡ r = omega arith in
    ap₂ (λ (u v : ℕ). number_of (open_past m u v)) e f ∙ rw (lt-ltb 0 (suc c) (omega arith), lt-ltb 0 (suc r) (omega arith), c', r')

module _ (m : Map) (goal entries : ℕ) (a : Ready m goal entries) (x : List ℕ) (p : Prefix m 0 m.height x) where
  abbrev g : ℕ
  g = spot (goal % m.width) (goal / m.width)

  abbrev x' : List ℕ
  x' = set x g goal_number

  gc : goal % m.width < m.width
  gc = mod-lt goal a.fitting.sound.some_wide

  gr : goal / m.width < m.height
  gr = open_row m (goal % m.width) (goal / m.width) a.chosen.free

  pub goal_on : g < length x
  goal_on = omega (arith, p.tall, gc, gr, a.fitting.sound.wide)

  loaded_value : (z : ℕ) → at x z ≡ loaded m z
  loaded_value = prefix_all m a.fitting.sound x p

  -- an open cell waits
  waits : (c r : ℕ) → Holds (open? m c r) → at x (spot c r) ≡ unreached
  waits c r o =
      let n = a.fitting.sound.wide in
      let k = open_column m c r o in
      loaded_value (spot c r) ∙ loaded_spot m c r (omega arith) ∙ holds_number (open? m c r) o

  -- a cell with a number is open
  behind : (z : ℕ) → 0 < at x' z → Past m (z % stride) (z / stride)
  unfolding loaded
  behind = each 0 x g goal_number goal_on (λ z v. 0 < v → Past m (z % stride) (z / stride)) (λ o. at_goal) (λ z e o. on z o)
    where
      on : (z : ℕ) → 0 < at x z → Past m (z % stride) (z / stride)
      on z o =
          past m (z % stride) (z / stride)
          (number_holds (open_past m (z % stride) (z / stride)) (subst (λ (v : ℕ). 0 < v) (loaded_value z) o))

      at_goal : Past m (g % stride) (g / stride)
      at_goal =
          let n = a.fitting.sound.wide in
          let k = gc in
          let e : goal % m.width ≡ g % stride - 1 = omega arith in
          let f : goal / m.width ≡ g / stride - 1 = omega arith in
          record { column = omega arith; row = omega arith; «open» = subst₂ (λ (u v : ℕ). Holds (open? m u v)) e f a.chosen.free }

  border : (z : ℕ) → 0 < at x' z → OffBorder x' z
  border z o =
      let q = behind z o in
      let c = open_column m _ _ q.«open» in
      let r = open_row m _ _ q.«open» in
      let n = a.fitting.sound.wide in
      record { low = omega (arith, q.column, q.row); high = omega (arith, q.column, q.row, p.tall, length-set x g goal_number) }

  kinds : (z : ℕ) → (at x z ≡ 0) ⊎ (at x z ≡ unreached)
  unfolding loaded
  kinds z = subst (λ (v : ℕ). (v ≡ 0) ⊎ (v ≡ unreached)) (sym (loaded_value z)) (number_kinds (open_past m (z % stride) (z / stride)))

  pub ready : (q : List ℕ) → length x ≤ largest → length q ≡ entries → Loaded x' q
  ready q few size = record {
    few = omega (arith, length-set x g goal_number);
    small = omega (arith, a.fitting.size, mul-le-mul a.fitting.sound.high a.fitting.sound.wide);
    enough =
        omega (arith, a.fitting.size, p.few, waiting_set x g goal_number goal_on, waits (goal % m.width) (goal / m.width) a.chosen.free);
    kinds = each 0 x g goal_number goal_on (λ z v. (v ≡ goal_number) ⊎ ((v ≡ 0) ⊎ (v ≡ unreached))) (inl refl) (λ z e. inr (kinds z));
    border = border;
  }

  -- the goal's place has the goal's number, and no other place
  alone : (z : ℕ) → at x' z ≡ goal_number → z ≡ g
  alone = each 0 x g goal_number goal_on (λ z v. v ≡ goal_number → z ≡ g) (λ e. refl) (λ z d e. absurd (other (kinds z) e))
    where
      other : {v : ℕ} → (v ≡ 0) ⊎ (v ≡ unreached) → ¬ (v ≡ goal_number)
      other (inl p) e = omega arith
      other (inr p) e = omega arith

  pub goals : (n : ℕ) → n ≡ g → Goals x' (n ∷ [])
  goals n e = record {
    few = omega arith;
    are = λ i k. let z : i ≡ 0 = omega arith in ap (λ (j : ℕ). at x' (get_or (n ∷ []) j 0)) z ∙ ap (at x') e ∙ get_or-set_same x g goal_number 0 goal_on;
    all = λ z k. record { index = 0; here = e ∙ sym (alone z k); after = omega arith; before = omega arith };
  }

  goal_numbers : GoalNumbers (floor m) x' (Only goal)
  goal_numbers = record {
    told = λ y. ℕ_discrete y goal;
    has = λ y e. ap (λ (c : ℕ). at x' (place_of (floor m) c)) e ∙ get_or-set_same x g goal_number 0 goal_on;
    alone = λ y e. same_cell (floor m) a.fitting.sound.some_wide a.fitting.sound.wide y goal (alone _ e);
  }

  mapped : Mapped (floor m) x'
  mapped = record {
    narrow = a.fitting.sound.wide;
    free = λ c r o. each 0 x g goal_number goal_on (λ z v. z ≡ spot c r → 0 < v) (λ e. omega arith) (λ z d e. omega (arith, ap (at x) e, waits c r o))
        (spot c r) refl;
    column = λ z o. z % stride - 1;
    row = λ z o. z / stride - 1;
    opened = λ z o. (behind z o).«open»;
    place = λ z o. let q = behind z o in omega (arith, q.column, q.row);
  }

  module _ (x'' : List ℕ) (s : Solved x' x'') where
    pub settled : AllSettled m.width m.height x''
    settled = record {
      wide = a.fitting.sound.wide;
      high = a.fitting.sound.high;
      tall = omega (arith, p.tall, s.cells, length-set x g goal_number);
      all = λ z. record { keyed = keyed x' x'' s z; below = s.below z };
    }

    pub filled :
        (q t : List ℕ) → Written (entry_of_cell m.width x'') 0 (cells m) q t → length q ≡ entries → Filled (steps_of m) (Only goal) (cells m) t
    filled q t w same = record {
      size = w.size ∙ same ∙ a.fitting.size;
      entries = λ y k. record {
        what = entry_of (at x'' (spot (y % m.width) (y / m.width)));
        says = says (floor m) a.fitting.sound.some_wide x' x'' mapped (Only goal) goal_numbers s y;
        same =
            get_or_any t y 4294967295 0 (omega (arith, w.size, same, a.fitting.size)) ∙ ap (λ (n : ℕ). get_or t n 0) (sym (zero-add y)) ∙ w.inside y k;
      };
    }

-- what a goal on an accepted floor and a table with an entry for each cell have
pub aimed : (g : Goal) (entries : ℕ) → entries ≡ cells (floor_map g.floor) → Ready (floor_map g.floor) g.cell entries
aimed g entries e = record { fitting = record { sound = g.floor.sound; size = e }; chosen = g.chosen }

-- scratch for this floor: a work array of blocked cells
pub record Scratch (m : Map) (x : List ℕ) : Type 0 where
  pub cleared : Cleared x
  pub tall : Tall m x
  pub few : length x ≤ largest

pub scratch_few : (n : ℕ) → length (replicate {A = ℕ} n 0) ≡ n
scratch_few n = length-replicate n 0

-- new scratch: the array is made of zeros
pub scratch : (m : Map) (n : ℕ) → n ≤ largest → (m.height + 2) * stride ≤ n → Scratch m (replicate n 0)
scratch m n few tall = record {
  cleared = record { done = λ z. by z (dec_le (suc z) n) };
  tall = record { rows = omega (arith, size) };
  few = omega (arith, size);
}
  where
    size : length (replicate {A = ℕ} n 0) ≡ n
    size = length-replicate n 0

    by : (z : ℕ) → Dec (z < n) → at (replicate n 0) z ≡ 0
    by z (yes h) = get_or-replicate n z 0 0 h
    by z (no h) = let k : length (replicate {A = ℕ} n 0) ≤ z = omega (arith, size) in get_or-eq_default (replicate n 0) 0 k
