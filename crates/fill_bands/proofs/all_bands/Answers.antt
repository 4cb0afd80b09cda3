-- `fill_bands::all_bands` meets its contract. The invariant: what holds between bands, of the floor that was loaded before
-- the goal's places took their steps. No band is empty, so there are no more bands than cells.
use Rattle.std.proofs.Common.{refl, arith}
use Rattle.fill_bands.proofs.FirstBand.{begin}
use Rattle.fill_bands.proofs.NextBand.{grows, next}
use Rattle.fill_bands.proofs.all_bands.Goals as goal

pub loop-mid-init : goal.loop-mid-init
loop-mid-init c = record { work = refl; queue = refl; work_size = refl; queue_size = refl; did = record { between = λ x q l g s. begin x q l _ g _ _ _ s } }

pub loop-mid-smaller : goal.loop-mid-smaller
loop-mid-smaller c =
    let g = c.loop-mid.invariant.did.between _ _ c.requires.loaded c.requires.goals c.goal_steps.ensures.did in
    let m = c.loop-mid-test.true in
    omega (arith, grows _ _ _ _ _ _ _ g m _ _ _ _ c.one_band-mid.ensures.did, c.loop-mid.spread.room, m)

pub loop-mid-preserved : goal.loop-mid-preserved
loop-mid-preserved c = record {
  work = cc;
  queue = cc;
  work_size = cc;
  queue_size = cc;
  did = record {
    between = λ x q l g s.
        next _ _ _ _ _ _ _ (c.loop-mid.invariant.did.between x q l g s) c.loop-mid-test.true _ _ _ _ c.one_band-mid.ensures.did;
  };
}
