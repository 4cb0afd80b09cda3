-- What the functions inside the reader leave of the legs ahead of a walker: counted, and written. Over any order of the
-- eight headings.
use Rattle.std.specs.Prelude.{◌≡◌, List, ◌++◌, ℕ, ◌+◌, ◌*◌, ◌/◌, ◌%◌, ◌≤◌, ◌<◌, length, drop, slice_index}
use Rattle.lengths.specs.declared.Length.{Length}
use Rattle.lengths.specs.Order.{◌⊕◌}
use Rattle.floor.specs.Floor.{Map}
use Rattle.steps.specs.inner.Leading.{lead_of}
use Rattle.route_walker.specs.declared.Walker.{Walker}
use Rattle.route_walker.specs.Legs.{Leg, Legs, bytes}
use Rattle.steps.specs.inner.Ranking.{Ranking}
use Rattle.route_walker.specs.inner.Walkers.{Run}
use Rattle.route_legs.specs.declared.Way.{Way}

-- ls are the legs ahead of w, and total is the length at their end
pub record Ahead (m : Map) (table : List ℕ) (o : Ranking) (w : Walker) (ls : List Leg) (total : Length) : Type 0 where
  pub headings : List ℕ
  pub left : Length
  pub run : Run (lead_of m) table o.at w.cell headings left
  pub legs : Legs headings ls
  pub sum : w.length ⊕ left ≡ total

-- the legs ahead counted, with the length at their end
pub record Counted (m : Map) (table : List ℕ) (o : Ranking) (w : Walker) (r : Way) : Type 0 where
  pub exact : (ls : List Leg) (total : Length) → Ahead m table o w ls total → (r.legs ≡ length ls) × (r.length ≡ total)
  pub small : r.legs < 4294967296

-- no more legs are ahead than the number of the walker's cell counts steps
abbrev pub FewLegs : (m : Map) (table : List ℕ) (o : Ranking) (w : Walker) → Type 0
FewLegs m table o w =
    (ls : List Leg) (total : Length) → Ahead m table o w ls total → length ls ≤ slice_index table w.cell / 65536 + slice_index table w.cell % 65536

-- there is room for the legs ahead
abbrev pub LegRoom : (m : Map) (table : List ℕ) (o : Ranking) (w : Walker) → List ℕ → Type 0
LegRoom m table o w old = (ls : List Leg) (total : Length) → Ahead m table o w ls total → 2 * length ls ≤ length old

-- how many legs a buffer of so many bytes is to be tested for: if it has room for these, then for the legs ahead; if
-- not, these are all of them
pub record Wanted (m : Map) (table : List ℕ) (o : Ranking) (w : Walker) (bytes k : ℕ) : Type 0 where
  pub enough : 2 * k ≤ bytes → (ls : List Leg) (total : Length) → Ahead m table o w ls total → 2 * length ls ≤ bytes
  pub exact : bytes < 2 * k → (ls : List Leg) (total : Length) → Ahead m table o w ls total → k ≡ length ls
  pub small : k < 4294967296

-- the legs ahead written from the front
abbrev pub LegsWritten : (m : Map) (table : List ℕ) (o : Ranking) (w : Walker) → (old new : List ℕ) → Type 0
LegsWritten m table o w old new = (ls : List Leg) (total : Length) → Ahead m table o w ls total → new ≡ bytes ls ++ drop (2 * length ls) old
