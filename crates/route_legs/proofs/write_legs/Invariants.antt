-- `route_legs::write_legs` meets its contract: each turn puts the first leg ahead behind the legs passed; there is room
-- for all of them. They are counted on the way.
use Prim.Native.Nat.{◌*◌}
use lib.ListN.{get_or}
use Rattle.floor.specs.Lent.{floor_map}
use Rattle.steps.specs.inner.Ranking.{numbered}
use Rattle.route_legs.proofs.Counting.{CountingLegs}
use Rattle.route_legs.proofs.Writing.{Writing}
use Rattle.route_legs.proofs.write_legs.Given as goal

abbrev pub invariant-loop-leg : goal.invariant-loop-leg
invariant-loop-leg l =
    Writing (floor_map l.walk.floor) l.walk.table.now numbered l.initial.walker l.walker (2 * l.count) l.initial.legs l.legs
    × CountingLegs (floor_map l.walk.floor) l.walk.table.now numbered l.initial.walker l.walker l.count

abbrev pub decreases-loop-leg : goal.decreases-loop-leg
decreases-loop-leg l = get_or l.walk.table.now l.walker.cell 0
