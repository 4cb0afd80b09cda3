-- The plan of REFERENCE, "Plans", as bytes.
use mathlib.Core.Path.{refl}
use mathlib.Core.List.{List, [], ◌∷◌}
use Prim.Native.Nat.{ℕ}
use native.Mathlib.Omega.{arith}
use Rattle.std.specs.Prelude.{Ok}
use Rattle.plan.specs.Sound.{Contents}
use Rattle.plan.specs.Reads.{Reads}

unfoldable pub input : List ℕ
input =
    0x04 ∷ 0x00 ∷ 0x01 ∷ 0x00 ∷ 0x05 ∷ 0x00 ∷ 0x03 ∷ 0x00
    ∷ 0x03 ∷ 0x00 ∷ 0x02 ∷ 0x00 ∷ 0x00 ∷ 0x04 ∷ 0x00
    ∷ 0x02 ∷ 0x00 ∷ 0x03 ∷ 0x00 ∷ 0x32 ∷ 0x00
    ∷ 0x08 ∷ 0x00 ∷ 0x04 ∷ 0x00 ∷ 0x00 ∷ 0x00 ∷ 0x01 ∷ 0x00 ∷ 0x04 ∷ 0x00 ∷ 0x01 ∷ 0x00
    ∷ 0x08 ∷ 0x00 ∷ 0x04 ∷ 0x00 ∷ 0x00 ∷ 0x00 ∷ 0x01 ∷ 0x00 ∷ 0x02 ∷ 0x00 ∷ 0x01 ∷ 0x00
    ∷ []

-- floor A with 50 centimetres a cell, from (0, 1) to (4, 1) and from (0, 1) to (2, 1)
unfoldable pub contents : Contents
contents =
    record {
      width = 5;
      height = 3;
      map = 0 ∷ 4 ∷ 0 ∷ [];
      size = 50;
      queries =
          record { start_col = 0; start_row = 1; goal_col = 4; goal_row = 1 }
          ∷ record { start_col = 0; start_row = 1; goal_col = 2; goal_row = 1 }
          ∷ [];
    }

-- 5 by 3, 50 centimetres, 3 bytes of map at 12, and 2 queries from 21 on
pub worked : Reads input
    (Ok (record { width = 5; height = 3; size = 50; map_at = 12; map_len = 3; queries = 2; first_query = 21 }))
unfolding input contents
worked = Reads.sound contents (record { joined = refl; few = omega arith }) refl
