-- Every starred case holds: each passes its computed test.
use mathlib.Core.Path.{refl}
use Rattle.answers.specs.Refusing.{first_refusal, refuse}
use Rattle.lengths.specs.Order.{over}
use Rattle.lengths.specs.Answers.{part_above, size_outside}
use Rattle.floor.specs.Floor.{blocked, open?}
use Rattle.steps.specs.Heading.{changes, change_of}
use Rattle.steps.specs.inner.Leading.{open_past, permitted, lead_of}
use Rattle.floor.specs.Refusals.{sides_outside, wrong_length, past_width, wrong_table, off_floor}
use Rattle.floor.specs.Tests.{floor_tested, places_tested}
use Rattle.rooms.specs.Answers.{room_tests}
use Rattle.calls.specs.Calls.{goal_tests, route_tests}
use Rattle.rooms.specs.Room.{top_of, bottom_of, column_open, left_of, right_of}
use Rattle.table_theory.specs.Entry.{read}
use Rattle.route_walker.specs.inner.Walkers.{fits, next}
use Rattle.stars.specs.Starred.{cases, All}
use Rattle.stars.proofs.Computed.{all}

pub starred : All cases
unfolding first_refusal refuse floor_tested places_tested goal_tests route_tests room_tests over part_above size_outside
    blocked open? changes change_of open_past permitted lead_of sides_outside wrong_length past_width wrong_table off_floor
    top_of bottom_of column_open left_of right_of read fits next
starred = all cases refl
