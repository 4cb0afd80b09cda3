-- `route_legs::legs_wanted` meets its contract: a route has no more legs than steps, and the start's number says how many
-- steps; else the legs are counted.
use Rattle.route_legs.proofs.Answering.{wanted_all, wanted_none}
use Rattle.route_legs.proofs.legs_wanted.Goals as goal

pub returns-then-steps_in-bytes : goal.returns-then-steps_in-bytes
returns-then-steps_in-bytes c = wanted_none c.requires.few _ _ c.steps_in.ensures.0 c.if-steps_in-bytes.true

pub returns : goal.returns
returns c = wanted_all _ _ c.count_legs.ensures
