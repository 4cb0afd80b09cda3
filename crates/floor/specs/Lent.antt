-- The map that a call is lent, and that of an accepted floor, as width, height and bytes.
use Rattle.floor.specs.declared.Map.{Map as LentMap}
use Rattle.floor.specs.declared.accepted.Floor.{Floor}
use Rattle.floor.specs.Floor.{Map, map_of}

abbrev pub given : LentMap → Map
given m = map_of m.width m.height m.bytes.now

abbrev pub floor_map : Floor → Map
floor_map f = map_of f.width f.height f.bytes.now
