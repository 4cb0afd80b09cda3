-- `route_walker::Walk::leg` meets its contract: each turn is a step by the one heading, and the numbers fall, so that the
-- run ends; where another heading comes next, the leg is whole.
use Rattle.std.proofs.Common.{get_or}
use Rattle.floor.specs.Lent.{floor_map}
use Rattle.steps.specs.inner.Ranking.{numbered}
use Rattle.route_walker.specs.inner.Walkers.{Walked}
use Rattle.route_walker.proofs.Walk.leg.Given as goal

abbrev pub invariant-loop-after : goal.invariant-loop-after
invariant-loop-after l = Walked (floor_map l.self.floor) l.self.table.now numbered l.initial.after l.after l.count l.heading.number

abbrev pub decreases-loop-after : goal.decreases-loop-after
decreases-loop-after l = get_or l.self.table.now l.after.cell 0
