-- `route_walker::Walk::next_heading` meets its contract: the search from the heading on finds what the whole search
-- finds.
use Rattle.std.proofs.Common.{◌≡◌, ◌-◌}
use Rattle.floor.specs.Lent.{floor_map}
use Rattle.steps.specs.inner.Leading.{lead_of}
use Rattle.steps.specs.inner.Ranking.{numbered}
use Rattle.route_walker.specs.inner.Walkers.{fits, next, seek}
use Rattle.route_walker.proofs.Walk.next_heading.Given as goal

abbrev pub invariant-loop-number : goal.invariant-loop-number
invariant-loop-number l =
    seek (fits (lead_of (floor_map l.self.floor)) l.self.table.now l.cell) numbered.at (8 - l.number) l.number
    ≡ next (lead_of (floor_map l.self.floor)) l.self.table.now numbered.at l.cell
