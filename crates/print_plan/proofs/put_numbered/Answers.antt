-- `print_plan::put_numbered` meets its contract: the query is the one with this number, and its line the line with it. The
-- plan is sound, and no refusal of it holds (`head_opened`), so its floor is an accepted one and its cell size inside.
use mathlib.Core.Path.{refl}
use native.Mathlib.Omega.{arith}
use Rattle.lengths.proofs.Tested.{small_size}
use Rattle.print_plan.proofs.HeadLines.{head_opened, query_in, map_is, size_inside, floor_sound, numbered}
use Rattle.print_plan.proofs.put_numbered.Goals as goal

pub query_at-query-requires : goal.query_at-query-requires
query_at-query-requires c =
    let n = c.requires.number_in_plan in
    query_in _ (head_opened c.requires.heads _ refl) _ n.0 n.1

pub invariant_of-floor : goal.invariant_of-floor
invariant_of-floor c =
    let o = head_opened c.requires.heads _ refl in
    record { sound = floor_sound _ o _ (map_is _ o.taken) }

pub overflow_cast-size : goal.overflow_cast-size
overflow_cast-size c = omega (arith, small_size _ (size_inside _ (head_opened c.requires.heads _ refl)))

pub invariant_of-size : goal.invariant_of-size
invariant_of-size c = record { inside = size_inside _ (head_opened c.requires.heads _ refl) }

pub returns : goal.returns
returns c =
    let o = head_opened c.requires.heads _ refl in
    let n = c.requires.number_in_plan in
    let w = c.put_query.ensures in
    let here = numbered _ o _ n.0 n.1 _ (map_is _ o.taken) _ c.query_at-query.ensures _ w.is in
    record { bytes = w.bytes; is = here; line_put = w.line_put }
