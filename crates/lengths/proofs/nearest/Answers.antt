-- `lengths::nearest` meets its contract: the keys' ratio is so little above √2 that what it gives, rounded down, is
-- nearest or one less, and the square of the odd number beside it tells which.
use Rattle.lengths.proofs.Rounding.{nearest_kept, nearest_raised, kept_at_most, raised_at_most}
use Rattle.lengths.proofs.nearest.Goals as goal

pub returns-then-odd-m : goal.returns-then-odd-m
returns-then-odd-m c = (nearest_raised c.args.m c.if-odd-m.true, raised_at_most c.args.m c.if-odd-m.true)

pub returns-else-odd-m : goal.returns-else-odd-m
returns-else-odd-m c = (nearest_kept c.args.m c.requires c.if-odd-m.false, kept_at_most c.args.m)
