-- `route_legs::read_route` meets its contract: the mark says that there is no way; else what lies ahead of a walker at the
-- start is the first route, there is room for its legs before the first byte is written, and each way out is a law of
-- proofs/Answering.
use native.Mathlib.Omega.{arith}
use Rattle.floor.specs.Lent.{floor_map}
use Rattle.steps.specs.inner.Ranking.{numbered}
use Rattle.route_walker.proofs.OnFloor.{filled_readable}
use Rattle.route_legs.proofs.Answering.{few_ahead, reads_no_room, reads_no_way, reads_way}
use Rattle.route_legs.proofs.read_route.Goals as goal

pub returns-then-table-start : goal.returns-then-table-start
returns-then-table-start c =
    let floor = c.args.floor.now in
    let on = c.requires.start_bound in
    reads_no_way (floor_map floor) floor.sound _ on.1 _ c.requires.filled numbered _ on.0 _ (omega arith)

pub invariant_of-walk : goal.invariant_of-walk
invariant_of-walk c =
    let floor = c.args.floor.now in
    record { readable = filled_readable (floor_map floor) floor.sound _ c.requires.start_bound.1 _ c.requires.filled }

pub legs_wanted-wanted-requires-clause-few : goal.legs_wanted-wanted-requires-clause-few
legs_wanted-wanted-requires-clause-few c =
    let floor = c.args.floor.now in
    let on = c.requires.start_bound in
    few_ahead (floor_map floor) floor.sound _ on.1 _ c.requires.filled numbered _ on.0
    _ c.stand-walker.ensures (λ e. omega arith)

-- the buffer is as it was,
-- and too short
pub returns-then-legs-wanted : goal.returns-then-legs-wanted
returns-then-legs-wanted c =
    let floor = c.args.floor.now in
    let on = c.requires.start_bound in
    reads_no_room (floor_map floor) floor.sound _ on.1 _ c.requires.filled numbered _ on.0
    _ c.stand-walker.ensures (λ e. omega arith) _ c.args.legs.now c.legs_wanted-wanted.ensures (omega arith)

pub write_legs-requires-clause-leg_room : goal.write_legs-requires-clause-leg_room
write_legs-requires-clause-leg_room c = c.legs_wanted-wanted.ensures.enough (omega (arith, c.if-legs-wanted.false))

pub returns : goal.returns
returns c =
    let floor = c.args.floor.now in
    let on = c.requires.start_bound in
    let room = c.legs_wanted-wanted.ensures.enough (omega (arith, c.if-legs-wanted.false)) in
    reads_way (floor_map floor) floor.sound _ on.1 _ c.requires.filled numbered _ on.0
    _ c.stand-walker.ensures (λ e. omega arith)
    _ c.args.legs.now _ room c.write_legs.ensures.counted c.write_legs.ensures.legs_written
