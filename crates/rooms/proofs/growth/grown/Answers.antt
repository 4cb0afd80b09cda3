-- `rooms::growth::grown` meets its contract: each count is the run of the test that its closure makes.
use Rattle.std.proofs.Common.{rules, ◌+◌, ◌-◌}
use Rattle.floor.specs.Floor.{open?}
use Rattle.floor.specs.Lent.{floor_map}
use Rattle.rooms.specs.Room.{column_open}
use Rattle.rooms.proofs.Rooms.{room_is}
use Rattle.rooms.proofs.growth.grown.Goals as goal

pub returns : goal.returns
returns c =
    let m = floor_map c.args.floor.now in
    let column = c.args.spot.column in
    let row = c.args.spot.row in
    let top = row - c.run-north.result in
    let bottom = row + c.run-south.result in
    room_is m column row _ _ _ _
    (c.run-north.ensures.counts (λ i. open? m column (row - 1 - i)) (λ i b lt e. search rules))
    (c.run-south.ensures.counts (λ i. open? m column (row + 1 + i)) (λ i b lt e. search rules))
    (c.run-west.ensures.counts (λ i. column_open m top bottom (column - 1 - i)) (λ i b lt e. search rules))
    (c.run-east.ensures.counts (λ i. column_open m top bottom (column + 1 + i)) (λ i b lt e. search rules))
