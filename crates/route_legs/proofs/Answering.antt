-- Each answer of the reader, from what its functions leave: no way at the mark; else what lies ahead of a walker at the
-- start is the first route.
use mathlib.Core.Path.{◌≡◌, refl, sym, subst, ap, ◌∙◌}
use mathlib.Core.Logic.{◌≢◌}
use mathlib.Core.List.{List}
use Prim.Native.Nat.{ℕ, ◌+◌, ◌*◌, ◌%◌, ◌/◌, ◌≤◌, ◌<◌}
use native.Mathlib.Omega.{arith}
use lib.ListN.{get_or, length}
use Rattle.lengths.specs.declared.Length.{Length}
use Rattle.lengths.specs.Order.{◌⊕◌, steps}
use Rattle.lengths.proofs.Order.{length_ext}
use Rattle.floor.specs.Floor.{Map, cells}
use Rattle.floor.specs.inner.Ready.{SoundFloor}
use Rattle.steps.specs.inner.Leading.{lead_of}
use Rattle.steps.specs.Step.{steps_of}
use Rattle.steps.specs.Way.{Only}
use Rattle.steps.proofs.OnMap.{small_shortest}
use Rattle.table_theory.specs.Entry.{long, pack}
use Rattle.table_theory.specs.Filled.{Filled}
use Rattle.route_walker.specs.declared.Walker.{Walker}
use Rattle.route_walker.specs.Route.{FirstRoute}
use Rattle.route_walker.specs.Legs.{Leg}
use Rattle.steps.specs.inner.Ranking.{Ranking}
use Rattle.route_walker.specs.inner.Walkers.{Run, Starts}
use Rattle.table_theory.proofs.Lists.{get_or_any}
use Rattle.route_walker.proofs.OnFloor.{first_run, no_way}
use Rattle.route_legs.specs.declared.Way.{Way}
use Rattle.std.specs.Prelude.{Ok, Err}
use Rattle.answers.specs.declared.Refusal.TheVariants as refusal
use Rattle.route_legs.specs.Read.{Routes}
use Rattle.route_legs.specs.inner.Reading.{ReadsRoute}
use Rattle.route_legs.specs.inner.Ahead.{Ahead, Counted, FewLegs, LegRoom, Wanted, LegsWritten}
use Rattle.route_legs.proofs.LegSteps.{few_legs, route_entry, route_steps}
use Rattle.route_legs.proofs.LegsAhead.{ahead_exists}

-- two bytes for each step are enough
pub wanted_none : {m : Map} {t : List ℕ} {o : Ranking} {w : Walker} → FewLegs m t o w
    → (bytes k : ℕ) → k ≡ get_or t w.cell 0 / 65536 + get_or t w.cell 0 % 65536 → 2 * k ≤ bytes → Wanted m t o w bytes 0
wanted_none few bytes k e h = record {
  enough = λ i ls l a. let p = few ls l a in omega arith;
  exact = λ i ls l a. absurd (omega arith);
  small = omega arith;
}

-- else the legs are counted
pub wanted_all : {m : Map} {t : List ℕ} {o : Ranking} {w : Walker} (bytes : ℕ) (k : Way) → Counted m t o w k → Wanted m t o w bytes k.legs
wanted_all bytes k d = record {
  enough = λ i ls l a. omega (arith, (d.exact ls l a).0);
  exact = λ i ls l a. (d.exact ls l a).0;
  small = d.small;
}

module _ (m : Map) (c : SoundFloor m) (goal : ℕ) (on : goal < cells m) (t : List ℕ) (f : Filled (steps_of m) (Only goal) (cells m) t) (o : Ranking)
    (start : ℕ) (b : start < cells m) where
  pub reads_no_way : (old : List ℕ) → get_or t start 0 ≡ 4294967295 → ReadsRoute (steps_of m) (Only goal) o.rank start old (Err refusal.NoWay) old
  reads_no_way old e = record { none = no_way m c goal on t f start b e; same = refl }

  -- what lies ahead of a walker at the start is the first route
  ahead_route : (w : Walker) → Starts m t o start w → get_or t start 0 ≢ 4294967295 → (ls : List Leg) (l : Length) → Ahead m t o w ls l
      → Routes (steps_of m) (Only goal) o.rank start l ls
  ahead_route w s n ls l h =
      let r : Run (lead_of m) t o.at start h.headings h.left = subst (λ (i : ℕ). Run (lead_of m) t o.at i h.headings h.left) s.there
      h.run in
      let e : h.left ≡ l = length_ext (omega arith) (omega arith) ∙ ap (λ (z : Length). z ⊕ h.left) (sym s.none) ∙ h.sum in
      record {
        headings = h.headings;
        first = subst (λ (z : Length). FirstRoute (steps_of m) (Only goal) o.rank start h.headings z) e (first_run m c goal on t f o b n r);
        legs_are = h.legs;
      }

  module _ (w : Walker) (s : Starts m t o start w) (n : get_or t start 0 ≢ 4294967295) where
    -- no more legs are ahead than the start's number says steps
    pub few_ahead : FewLegs m t o w
    few_ahead ls l a =
        let r = ahead_route w s n ls l a in
        let e : get_or t start 0 ≡ pack (long l) = get_or_any t start 0 4294967295 (omega (arith, f.size)) ∙ route_entry (steps_of m) r f b in
        let few = small_shortest m c (Only goal) (λ x p. omega (arith, p)) start l r.first.route.short in
        let k = few_legs (steps_of m) ls r.legs_are.proper in
        let q = ap steps (route_steps (steps_of m) r) in
        let i : length ls ≤ get_or t start 0 / 65536 + get_or t start 0 % 65536 = omega (arith, e, few.straight, few.diagonal, k, q) in
        subst (λ (x : ℕ). length ls ≤ get_or t x 0 / 65536 + get_or t x 0 % 65536) (sym s.there) i

    pub reads_no_room : (k : ℕ) (old : List ℕ) → Wanted m t o w (length old) k → length old < 2 * k
        → ReadsRoute (steps_of m) (Only goal) o.rank start old (Err (refusal.LegsShort k)) old
    reads_no_room k old d h =
        let (ls, l, a) = ahead_exists m t o w in
        let e = d.exact h ls l a in
        record { size = l; legs = ls; route = ahead_route w s n ls l a; counted = e; short = omega arith; same = refl }

    pub reads_way : (k : Way) (old new : List ℕ) → LegRoom m t o w old → Counted m t o w k → LegsWritten m t o w old new
        → ReadsRoute (steps_of m) (Only goal) o.rank start old (Ok k) new
    reads_way k old new room d p =
        let (ls, l, a) = ahead_exists m t o w in
        let (e, g) = d.exact ls l a in
        record {
          legs = ls;
          route = subst (λ (z : Length). Routes (steps_of m) (Only goal) o.rank start z ls) (sym g) (ahead_route w s n ls l a);
          count = e;
          room = room ls l a;
          written = p ls l a;
        }
