-- `rooms::room_around` meets its contract: what passed the last test stands on the floor.
use mathlib.Core.Path.{sym}
use Rattle.floor.specs.Lent.{floor_map}
use Rattle.floor.proofs.Tested.{stands, largest_low}
use Rattle.rooms.proofs.room_around.Goals as goal

pub floor_within-requires : goal.floor_within-requires
floor_within-requires c = largest_low

pub grown-requires : goal.grown-requires
grown-requires c =
    let at = stands _ (floor_map c.in_ok-floor.floor) c.args.spot (sym c.in_ok-test_open.ensures) in
    (at.column_on, at.row_on)
