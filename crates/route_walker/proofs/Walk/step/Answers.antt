-- `route_walker::Walk::step` meets its contract: the walker's next heading is one that fits, so it leads to a cell, whose
-- number is counted, and the number falls by the step.
use Rattle.floor.specs.Lent.{floor_map}
use Rattle.steps.specs.inner.Ranking.{numbered}
use Rattle.route_walker.proofs.OnFloor.{lands}
use Rattle.route_walker.proofs.Stepping.{room_to_step, step_led, step_to}
use Rattle.route_walker.proofs.Walk.step.Goals as goal

pub overflow_sub-cell : goal.overflow_sub-cell
overflow_sub-cell c =
    let walk = c.args.self.now in
    (step_led (floor_map walk.floor) walk.table.now numbered _ c.requires _ c.in-Some.is _ c.past_step.ensures.0).0

pub one_more-requires : goal.one_more-requires
one_more-requires c = room_to_step _ _ _ _ c.requires _ c.in-Some.is

pub next_heading-requires : goal.next_heading-requires
next_heading-requires c =
    let walk = c.args.self.now in
    let led = step_led (floor_map walk.floor) walk.table.now numbered _ c.requires _ c.in-Some.is _ c.past_step.ensures.0 in
    lands (floor_map walk.floor) _ c.args.walker.cell _ c.in-Some.heading.known led.1

pub returns : goal.returns
returns c =
    let walk = c.args.self.now in
    let led = step_led (floor_map walk.floor) walk.table.now numbered _ c.requires _ c.in-Some.is _ c.past_step.ensures.0 in
    step_to _ _ numbered _ c.requires _ c.in-Some.is _ led.1 c.one_more.ensures c.next_heading.ensures
