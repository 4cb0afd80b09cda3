-- `route_legs::write_legs` meets its contract: each turn puts the first leg ahead behind the legs passed; there is room
-- for all of them. They are counted on the way.
use Rattle.route_legs.proofs.Counting.{counting_end, counting_more}
use Rattle.route_legs.proofs.Writing.{writing_end, writing_more, writing_next, writing_room}
use Rattle.route_legs.proofs.write_legs.Goals as goal

pub put_leg-requires : goal.put_leg-requires
put_leg-requires c =
    let leads = c.in-Some.ensures in
    (writing_room _ _ _ _ _ _ _ _ _ c.requires.leg_room c.loop-leg.invariant.0 leads, leads.short)

pub loop-leg-preserved : goal.loop-leg-preserved
loop-leg-preserved c =
    let turn = c.loop-leg in
    let leads = c.in-Some.ensures in (
      writing_next _ _ _ _ _ turn.count _ _
          (writing_more _ _ _ _ _ _ _ _ _ _ c.requires.leg_room turn.invariant.0 leads c.put_leg.ensures),
      counting_more _ _ _ _ _ _ _ turn.invariant.1 leads,
    )

pub returns-clause-counted : goal.returns-clause-counted
returns-clause-counted c = counting_end _ _ _ _ _ _ c.requires.stands c.loop-leg.invariant.1 c.in_default.ensures

pub returns-clause-legs_written : goal.returns-clause-legs_written
returns-clause-legs_written c = writing_end _ _ _ _ _ _ _ _ c.loop-leg.invariant.0 c.in_default.ensures
