-- `fill_steps::cell_steps` meets its contract. The invariant: the steps with the headings before this one were taken, and
-- the mask that is kept is that of the side cell behind.
use Rattle.std.proofs.Common.{◌≡◌, ℕ, zero, suc, ◌+◌, ◌*◌, ◌<◌, [], ◌∷◌, get_or, refl, arith}
use Rattle.fill_steps.proofs.InWork.{in_work}
use Rattle.fill_steps.proofs.ManySteps.{headings_more, headings_all}
use Rattle.fill_steps.proofs.Spread.cell_steps.Goals as goal

-- the diagonal headings
diagonal_at : (i : ℕ) → i < 4 → get_or (1 ∷ 3 ∷ 5 ∷ 7 ∷ []) i 0 ≡ 2 * i + 1
diagonal_at zero l = refl
diagonal_at (suc zero) l = refl
diagonal_at (suc (suc zero)) l = refl
diagonal_at (suc (suc (suc zero))) l = refl
diagonal_at (suc (suc (suc (suc i)))) l = absurd (omega arith)

pub offer-requires : goal.offer-requires
offer-requires c =
    let e = diagonal_at _ c.loop-diagonally-test.true in
    let l = in_work c.args.self.now.work.now c.args.from (2 * c.loop-diagonally.diagonally-index + 1) (omega arith) c.requires.off_border in
    omega (arith, rw e at c.place_of.ensures, l, c.side_step-north.ensures, c.loop-diagonally.invariant, c.side_after-other.ensures)

pub loop-diagonally-preserved : goal.loop-diagonally-preserved
loop-diagonally-preserved c = record {
  work = cc;
  queue = cc;
  work_size = cc;
  queue_size = cc;
  did =
      headings_more _ _ _ _ _ _ _ _ _ _ _ c.loop-diagonally.invariant.did c.loop-diagonally-test.true _ (diagonal_at _ c.loop-diagonally-test.true) _ refl _ _ _ _
      c.side_after-other.ensures.did _ _ _ _ _ _ c.diagonal_of-diagonal.ensures c.past.ensures c.place_of.ensures c.offer.ensures.did;
}

pub returns : goal.returns
returns c = record {
  work = cc;
  queue = cc;
  work_size = cc;
  queue_size = cc;
  did =
      headings_all _ _ _ _ _ _ _ _ _ _ _ _ _ _ _ refl refl c.side_step-north.ensures.did c.loop-diagonally.invariant.did c.loop-diagonally-test.false;
}
