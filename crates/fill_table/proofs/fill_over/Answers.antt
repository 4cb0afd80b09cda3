-- `fill_table::fill_over` meets its contract: the map is loaded into a scratch of blocked places, the goal is given its
-- number, the bands leave the shortest lengths, and these are stored.
use mathlib.Core.Path.{refl}
use native.Mathlib.Omega.{arith}
use Rattle.floor.specs.Lent.{floor_map}
use Rattle.fill_load.proofs.MapLoaded.{prefix_none}
use Rattle.fill_table.proofs.WholeFill.{aimed, scratch, scratch_few, ready, goals, settled, filled}
use Rattle.fill_table.proofs.fill_over.Goals as goal

pub load_map-requires : goal.load_map-requires
load_map-requires g c =
    let m = floor_map c.args.goal.now.floor in
    let s = scratch m _ c.requires.room.1 c.requires.room.0 in
    prefix_none m c.args.goal.now.floor.sound _ s.cleared s.tall

pub all_bands-requires-clause-loaded : goal.all_bands-requires-clause-loaded
all_bands-requires-clause-loaded g c =
    ready _ _ _ (aimed c.args.goal.now _ c.requires.table_len) _ c.load_map.ensures _ (omega (arith, c.load_map.auto.work, scratch_few g.row.PLACES, c.requires.room.1))
    refl

pub all_bands-requires-clause-goals : goal.all_bands-requires-clause-goals
all_bands-requires-clause-goals g c = goals _ _ _ (aimed c.args.goal.now _ c.requires.table_len) _ c.load_map.ensures _ refl

pub store_table-requires-clause-all_settled : goal.store_table-requires-clause-all_settled
store_table-requires-clause-all_settled g c =
    settled _ _ _ (aimed c.args.goal.now _ c.requires.table_len) _ c.load_map.ensures _ c.all_bands.ensures

pub returns : goal.returns
returns g c =
    filled _ _ _ (aimed c.args.goal.now _ c.requires.table_len) _ c.load_map.ensures _ c.all_bands.ensures _ _ c.store_table.ensures
    (omega (arith, c.all_bands.auto.queue))
