-- `route_legs::count_legs` meets its contract: each turn walks the first leg ahead, so that one leg fewer is ahead, and
-- the numbers fall.
use lib.ListN.{get_or}
use Rattle.floor.specs.Lent.{floor_map}
use Rattle.steps.specs.inner.Ranking.{numbered}
use Rattle.route_legs.proofs.Counting.{CountingLegs}
use Rattle.route_legs.proofs.count_legs.Given as goal

abbrev pub invariant-loop-leg : goal.invariant-loop-leg
invariant-loop-leg l = CountingLegs (floor_map l.walk.floor) l.walk.table.now numbered l.initial.walker l.walker l.legs

abbrev pub decreases-loop-leg : goal.decreases-loop-leg
decreases-loop-leg l = get_or l.walk.table.now l.walker.cell 0
