-- `fill_load::load_byte` meets its contract. The invariant: the cells of the byte's first i bits are loaded.
use mathlib.Core.Path.{◌∙◌, ap}
use Prim.Native.Nat.{ℕ, ◌-◌, ◌*◌}
use Rattle.floor.specs.Floor.{bit}
use Rattle.floor.specs.Lent.{floor_map}
use Rattle.fill_steps.specs.inner.Work.{unreached}
use Rattle.fill_load.proofs.MapLoaded.{bits_more}
use Rattle.fill_load.proofs.load_byte.Goals as goal

pub loop-i-preserved : goal.loop-i-preserved
loop-i-preserved c =
    let r = c.requires.byte_run in
    bits_more (floor_map c.args.floor.now) r.sound _ _ _ _ _ _ _ r c.loop-i.invariant c.loop-i-test.true
    (c.number_of.ensures ∙ ap (λ (b : ℕ). (1 - bit c.loop-i.i b) * unreached) c.byte_at-byte.ensures)
