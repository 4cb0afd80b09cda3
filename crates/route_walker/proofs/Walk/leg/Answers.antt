-- `route_walker::Walk::leg` meets its contract: each turn is a step by the one heading, and the numbers fall, so that the
-- run ends; where another heading comes next, the leg is whole.
use Rattle.std.proofs.Common.{refl, sym, ap, ◌∙◌}
use Rattle.steps.specs.inner.Ranking.{numbered}
use Rattle.route_walker.specs.inner.Walkers.{taken}
use Rattle.route_walker.proofs.Stepping.{going_leads, going_more, next_other, next_same}
use Rattle.route_walker.proofs.Walk.leg.Goals as goal

pub loop-after-preserved : goal.loop-after-preserved
loop-after-preserved c =
    let same = next_same _ (λ j k. refl) c.in_ok-heading.heading _ (sym c.eq.ensures ∙ c.loop-after-test.true) in
    going_more _ _ numbered _ _ _ _ _ c.in_ok-heading.heading.known c.loop-after.invariant same c.step-after.ensures

pub returns : goal.returns
returns c =
    let other = next_other _ (λ j k. refl) c.in_ok-heading.heading _ (sym c.eq.ensures ∙ c.loop-after-test.false) in
    going_leads _ _ _ c.args.self.now.floor.sound _ _ c.in_ok-heading.heading _ (sym (ap taken (c.in_ok-heading.was))) c.requires
    c.loop-after.invariant other
