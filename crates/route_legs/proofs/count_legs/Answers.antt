-- `route_legs::count_legs` meets its contract: each turn walks the first leg ahead, so that one leg fewer is ahead, and
-- the numbers fall.
use Rattle.route_legs.proofs.Counting.{counting_end, counting_more}
use Rattle.route_legs.proofs.count_legs.Goals as goal

pub loop-leg-preserved : goal.loop-leg-preserved
loop-leg-preserved c = counting_more _ _ _ _ _ _ _ c.loop-leg.invariant c.in-Some.ensures

pub returns : goal.returns
returns c = counting_end _ _ _ _ _ _ c.requires c.loop-leg.invariant c.in_default.ensures
