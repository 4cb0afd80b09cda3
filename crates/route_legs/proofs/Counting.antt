-- Counting the legs ahead of a walker.
use mathlib.Core.Path.{◌≡◌, ap}
use mathlib.Core.List.{List}
use Prim.Native.Nat.{ℕ, suc, ◌+◌, ◌≤◌}
use native.Mathlib.Omega.{arith}
use lib.ListN.{get_or, length}
use Rattle.std.specs.Prelude.{None}
use Rattle.lengths.specs.declared.Length.{Length}
use Rattle.floor.specs.Floor.{Map}
use Rattle.route_walker.specs.declared.Walker.{Walker}
use Rattle.route_walker.specs.declared.WalkedLeg.{WalkedLeg}
use Rattle.route_walker.specs.Legs.{Leg}
use Rattle.steps.specs.inner.Ranking.{Ranking}
use Rattle.route_walker.specs.inner.Walkers.{Stands, Leads}
use Rattle.route_legs.specs.inner.Ahead.{Ahead, Counted}
use Rattle.route_legs.proofs.LegsAhead.{ahead_leg, ahead_end}

-- k legs of w are counted, and v stands after them
pub record CountingLegs (m : Map) (t : List ℕ) (o : Ranking) (w v : Walker) (k : ℕ) : Type 0 where
  -- v stands on the floor and knows its next heading
  pub stands : Stands m t o v
  -- the number has fallen by a step for each leg at least
  pub falls : get_or t v.cell 0 + k ≤ get_or t w.cell 0
  -- what was ahead of w is k legs and what is ahead of v
  pub ahead : (ls : List Leg) (total : Length) → Ahead m t o w ls total → (ks : List Leg) × Ahead m t o v ks total × (length ls ≡ k + length ks)

module _ (m : Map) (t : List ℕ) (o : Ranking) where
  pub counting_more : (w v : Walker) (k : ℕ) (r : WalkedLeg) → CountingLegs m t o w v k → Leads m t o v r → CountingLegs m t o w r.after (k + 1)
  counting_more w v k r c d = record {
    stands = d.going.stands;
    falls = omega (arith, c.falls, d.going.falls, d.some);
    ahead = λ ls total a.
        let (ks, b, e) = c.ahead ls total a in
        let (js, f, g) = ahead_leg m t o v r d ks total b in
        (js, g, let n : length ks ≡ suc (length js) = ap length f in omega arith);
  }

  pub counting_end : (w v : Walker) (k : ℕ) → Stands m t o w → CountingLegs m t o w v k → v.next ≡ None
      → Counted m t o w (record { length = v.length; legs = k })
  counting_end w v k s c b = record {
    exact = λ ls total a.
        let (ks, d, e) = c.ahead ls total a in
        let (f, g) = ahead_end m t o v c.stands b ks total d in
        (let n : length ks ≡ 0 = ap length f in omega arith, g);
    small = omega (arith, c.falls, s.few);
  }
