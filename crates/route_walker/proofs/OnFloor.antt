-- The reader on a floor: its run is a walk by permitted steps, with a filled table the first route, and the mark says
-- that there is no way.
use Rattle.std.proofs.Common.{Some, ◌≡◌, ℕ, ◌+◌, ◌/◌, ◌%◌, ◌<◌, ◌≤◌, false, ◌≢◌, ◌⊎◌, List, get_or, sym, refl, ap, ◌∙◌, subst, inl, inr, arith}
use native.Mathlib.Decide.{ℕ_discrete}
use Rattle.lengths.specs.declared.Length.{Length}
use Rattle.lengths.specs.inner.AtMost.{Within}
use Rattle.floor.specs.Floor.{Map, Open, cells}
use Rattle.floor.specs.inner.Ready.{SoundFloor}
use Rattle.steps.specs.inner.Leading.{lead_of}
use Rattle.steps.specs.Step.{steps_of}
use Rattle.steps.specs.Way.{Way, stay, step, Reach, Shortest, Only}
use Rattle.steps.proofs.Grid.{inside, step_back, one_way}
use Rattle.steps.proofs.OnMap.{few_cells}
use Rattle.steps.proofs.Leads.{floor, to_step, from_step}
use Rattle.table_theory.specs.Entry.{Entry, mark, long, pack, parts_of, malformed, read, entry_at}
use Rattle.table_theory.specs.Filled.{Says, Filled}
use Rattle.table_theory.proofs.Lists.{get_or_any}
use Rattle.table_theory.proofs.Packing.{read_mark, formed, pack_read}
use Rattle.table_theory.proofs.Judging.{filled_says, filled_right}
use Rattle.route_walker.specs.Route as walk
use Rattle.route_walker.specs.Route.{FirstRoute, Walk}
use Rattle.route_walker.specs.Legs.{again}
use Rattle.steps.specs.inner.Ranking.{Ranking}
use Rattle.route_walker.specs.inner.Walkers.{Run, done, more, Readable}
use Rattle.route_walker.proofs.First.{first_unique, follows_first}
use Rattle.route_walker.proofs.Fitting.{run_follows}
use Rattle.route_walker.proofs.ShortRuns.{run_short}

-- both ends of a step lie on the floor
stays_on_floor : (m : Map) (h x y : ℕ) → (steps_of m).Step h x y → (x < cells m) × (y < cells m)
stays_on_floor m h x y s = (inside (floor m) h x y s, inside (floor m) _ y x (step_back (floor m) h x y s))

pub lands : (m : Map) (h x y : ℕ) → h < 8 → lead_of m h x ≡ Some y → y < cells m
lands m h x y b p = (stays_on_floor m h x y (to_step m h x y b p)).1

-- the reader's run is a walk
run_walk : (m : Map) {t : List ℕ} {at : ℕ → ℕ} {x : ℕ} {hs : List ℕ} {a : Length} → Run (lead_of m) t at x hs a → (y : ℕ) × Walk (steps_of m) x y hs a
run_walk m {x = x} (done e) = (x, walk.stay)
run_walk m (more {h = h} {x = x} {y = y} e b q r) = let (z, w) = run_walk m r in (z, walk.step (to_step m h x y b q) w)

-- so each leg of it has at most 127 steps
pub leg_short : (m : Map) → SoundFloor m → (n h : ℕ) (hs t : List ℕ) (at : ℕ → ℕ) {x : ℕ} {a : Length} → Run (lead_of m) t at x (again n h hs) a → n ≤ 127
leg_short m c n h hs t at r = let (y, w) = run_walk m r in run_short (floor m) c.wide c.high n h hs w

-- a cell is open
abbrev OpenAt : Map → ℕ → Type 0
OpenAt m x = Open m (x % m.width) (x / m.width)

-- the end of a way is open if its start is
way_end : (m : Map) {x y : ℕ} {l : Length} → OpenAt m x → Way (steps_of m) x y l → OpenAt m y
way_end m o stay = o
way_end m o (step s w) = way_end m s.to w

-- two first routes are the same, if no two headings have one rank
pub route_unique : (m : Map) (rank : ℕ → ℕ) → ((h k : ℕ) → h < 8 → k < 8 → rank h ≡ rank k → h ≡ k)
    → {Goal : ℕ → Type 0} {x : ℕ} {hs ks : List ℕ} {a b : Length}
    → FirstRoute (steps_of m) Goal rank x hs a → FirstRoute (steps_of m) Goal rank x ks b → hs ≡ ks
route_unique m rank apart {Goal} = first_unique (steps_of m) Goal rank (one_way (floor m)) (λ h k x y z s t. apart h k s.heading t.heading)

module _ (m : Map) (c : SoundFloor m) (goal : ℕ) (on : goal < cells m) (t : List ℕ) (f : Filled (steps_of m) (Only goal) (cells m) t) where
  goal? : (x : ℕ) → Dec (Only goal x)
  goal? x = ℕ_discrete x goal

  goal_inside : (x : ℕ) → Only goal x → x < cells m
  goal_inside x e = omega arith

  right : (x : ℕ) → Says (steps_of m) (Only goal) x (entry_at t x)
  right = filled_says (steps_of m) (Only goal) goal? (cells m) (few_cells m c) (inside (floor m)) goal_inside t f.size f

  well : (x : ℕ) → x < cells m → malformed (get_or t x 4294967295) ≡ false
  well x b = (filled_right (steps_of m) (Only goal) goal? (cells m) (few_cells m c) (inside (floor m)) goal_inside t f.size f x b).formed

  -- a cell's number, as the code reads it, is its entry packed
  number_is : (x : ℕ) → x < cells m → get_or t x 0 ≡ pack (entry_at t x)
  number_is x b = get_or_any t x 0 4294967295 (omega (arith, f.size)) ∙ sym (pack_read (get_or t x 4294967295) (well x b))

  has_length : (x : ℕ) → x < cells m → get_or t x 0 ≢ 4294967295 → (a : Length) × (entry_at t x ≡ long a)
  has_length x b n = by (entry_at t x) refl
    where
      by : (e : Entry) → entry_at t x ≡ e → (a : Length) × (entry_at t x ≡ long a)
      by mark p = absurd (n (number_is x b ∙ ap pack p))
      by (long a) p = (a, p)

  -- a number that is not the mark is small
  small_number : (x : ℕ) → x < cells m → get_or t x 0 ≢ 4294967295 → get_or t x 0 < 1073741824
  small_number x b n = by (formed (get_or t x 4294967295) (well x b))
    where
      e : get_or t x 0 ≡ get_or t x 4294967295
      e = get_or_any t x 0 4294967295 (omega (arith, f.size))

      by : (get_or t x 4294967295 ≡ 4294967295) ⊎ Within (parts_of (get_or t x 4294967295)) → get_or t x 0 < 1073741824
      by (inl p) = absurd (n (e ∙ p))
      by (inr w) = omega (arith, e, w.straight)

  shortest_at : (x : ℕ) → x < cells m → get_or t x 0 ≢ 4294967295 → (a : Length) × (get_or t x 0 ≡ pack (long a)) × Shortest (steps_of m) (Only goal) x a
  shortest_at x b n =
      let (a, p) = has_length x b n in
      (a, number_is x b ∙ ap pack p, subst (Says (steps_of m) (Only goal) x) p (right x))

  -- a filled table can be read: of two numbers that differ by a straight step the greater is of a cell with a way of a
  -- step or more, and from the other there is a way too, or it is the goal, which that way ends in
  pub filled_readable : Readable m t
  filled_readable = record { size = f.size; ends = ends }
    where
      far : (x : ℕ) {g : ℕ} {a : Length} → 0 < get_or t x 0 → get_or t x 0 ≡ pack (long a) → g ≡ goal → Way (steps_of m) x g a → OpenAt m x × OpenAt m goal
      far x p n e stay = absurd (omega arith)
      far x p n e (step s w) = (s.from, subst (OpenAt m) e (way_end m s.to w))

      near : (y : ℕ) {g : ℕ} {a : Length} → OpenAt m goal → g ≡ goal → Way (steps_of m) y g a → OpenAt m y
      near y o e stay = subst (OpenAt m) (sym e) o
      near y o e (step s w) = s.from

      ends : (x y : ℕ) → x < cells m → y < cells m → get_or t x 0 ≡ get_or t y 0 + 65536 → OpenAt m x × OpenAt m y
      ends x y i j d =
          let n : get_or t y 0 ≢ 4294967295 = λ e. let z = small_number x i (λ q. omega arith) in omega arith in
          let k : get_or t x 0 ≢ 4294967295 = λ e. let z = small_number y j n in omega arith in
          let (a, p, u) = shortest_at x i k in
          let (b, q, v) = shortest_at y j n in
          let (g, e, w) = u.way in
          let (from, end) = far x (omega arith) p e w in
          let (g', e', w') = v.way in
          (from, near y end e' w')

  -- the mark says that there is no way
  pub no_way : (x : ℕ) → x < cells m → get_or t x 0 ≡ 4294967295 → (a : Length) → ¬ Reach (steps_of m) (Only goal) x a
  no_way x b e = subst (Says (steps_of m) (Only goal) x) (ap read (get_or_any t x 4294967295 0 (omega (arith, f.size)) ∙ e) ∙ read_mark) (right x)

  -- else the reader's run is the first route
  pub first_run : (o : Ranking) {x : ℕ} {hs : List ℕ} {a : Length} → x < cells m → get_or t x 0 ≢ 4294967295 → Run (lead_of m) t o.at x hs a
      → FirstRoute (steps_of m) (Only goal) o.rank x hs a
  first_run o {x} b n r =
      let (a, p) = has_length x b n in
      follows_first (steps_of m) (Only goal) o.rank (one_way (floor m))
      (run_follows (steps_of m) (Only goal) (cells m) (lead_of m) t o (to_step m) (λ h x y s. (s.heading, from_step m h x y s)) (λ h. refl) (stays_on_floor m)
      f.size right well a p r)
