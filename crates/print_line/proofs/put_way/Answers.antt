-- `print_line::put_way` meets its contract: the fields before the legs, the legs' bytes, then the newline.
use native.Mathlib.Omega.{arith}
use mathlib.Core.List.{List, [], ◌∷◌}
use Prim.Native.Nat.{ℕ}
use lib.ListN.{length-take}
use Rattle.print_line.proofs.WayLine.{way_wrote}
use Rattle.print_line.proofs.put_way.Goals as goal

pub put_newline-requires : goal.put_newline-requires
put_newline-requires c = omega (arith, length-take {A = ℕ})

pub returns : goal.returns
returns c =
    let w = c.args.way in
    let parts : List ℕ = 0 ∷ w.length.straight ∷ w.length.diagonal ∷ c.args.centimetres ∷ w.legs ∷ [] in
    record {
      wrote = way_wrote c.args.number parts _ c.put_numbers.ensures.wrote c.put_fields.ensures.wrote c.put_newline.ensures;
      fits = omega (arith, length-take {A = ℕ});
    }
