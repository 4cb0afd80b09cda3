-- `plan::read` meets its contract: whichever way out is taken, the steps' answer is given, and any bytes are a sound
-- plan or a broken one whose answer that is. After each of the first three records it is known that it was read
-- (`floor_read`, `map_read`, `size_read`); where it was not, the refusal is that of a break at its offset.
use Rattle.plan.proofs.Outcomes.{floor_read, map_read, size_read, floor_broken, map_broken, size_broken, queries_broken, whole_plan}
use Rattle.plan.proofs.Outcomes.{handed_on}
use Rattle.plan.proofs.read.Goals as goal

pub returns-in_err-floor : goal.returns-in_err-floor
returns-in_err-floor c =
    handed_on _ c.from_residual.ensures (floor_broken c.type_inv.bytes c.fixed_record_at.ensures.value c.in_err-floor.ensures.value)

pub returns-in_err-map : goal.returns-in_err-map
returns-in_err-map c =
    let f = floor_read c.type_inv.bytes c.fixed_record_at.ensures.value c.in_ok-floor.ensures.ok_part in
    handed_on _ c.from_residual-in_err-map.ensures (map_broken f c.record_at.ensures.value c.in_err-map.ensures.value)

pub returns-in_err-size : goal.returns-in_err-size
returns-in_err-size c =
    let f = floor_read c.type_inv.bytes c.fixed_record_at.ensures.value c.in_ok-floor.ensures.ok_part in
    let m = map_read f c.record_at.ensures.value c.in_ok-map.ensures.ok_part in
    handed_on _ c.from_residual-in_err-size.ensures (size_broken m c.fixed_record_at-2.ensures.value c.in_err-size.ensures.value)

pub returns-in_err-refuse : goal.returns-in_err-refuse
returns-in_err-refuse c =
    let f = floor_read c.type_inv.bytes c.fixed_record_at.ensures.value c.in_ok-floor.ensures.ok_part in
    let m = map_read f c.record_at.ensures.value c.in_ok-map.ensures.ok_part in
    let s = size_read m c.fixed_record_at-2.ensures.value c.in_ok-size.ensures.ok_part in
    handed_on _ c.from_residual-in_err-refuse.ensures (queries_broken s _ c.count_queries-queries.ensures.value c.in_err-refuse.ensures)

pub returns : goal.returns
returns c =
    let f = floor_read c.type_inv.bytes c.fixed_record_at.ensures.value c.in_ok-floor.ensures.ok_part in
    let m = map_read f c.record_at.ensures.value c.in_ok-map.ensures.ok_part in
    let s = size_read m c.fixed_record_at-2.ensures.value c.in_ok-size.ensures.ok_part in
    whole_plan s _ c.count_queries-queries.ensures.value c.in_ok-refuse.ensures _ _ _ c.number_at.ensures c.number_at-2.ensures c.number_at-3.ensures
