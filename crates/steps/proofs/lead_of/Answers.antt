-- `steps::lead_of` meets its contract: a permitted step ends on the floor (`leads_end`), so nothing wraps, and each way
-- out is a law of proofs/Stepping.
use mathlib.Core.Path.{◌∙◌, ap}
use Prim.Native.Nat.{ℕ}
use native.Mathlib.Omega.{arith}
use Rattle.std.specs.Prelude.{Some}
use Rattle.floor.specs.Lent.{floor_map}
use Rattle.steps.proofs.Headings.{changes_of}
use Rattle.steps.proofs.Stepping.{place, leads_nowhere, leads_to, leads_end}
use Rattle.steps.proofs.lead_of.Goals as goal

pub permitted-requires : goal.permitted-requires
permitted-requires c =
    let floor = c.args.floor.now in
    let on = place (floor_map floor) floor.sound c.args.cell c.requires in
    let change = changes_of c.args.heading.number c.args.heading.known in
    record {
      changes = rw c.change-change.ensures (change.narrow, change.flat);
      place = (omega (arith, floor.sound), omega (arith, floor.sound));
    }

pub returns-then-not-permitted : goal.returns-then-not-permitted
returns-then-not-permitted c =
    leads_nowhere (floor_map c.args.floor.now) _ _ _ c.change-change.ensures _ c.permitted.ensures c.if-not-permitted.true

pub overflow_add-column : goal.overflow_add-column
overflow_add-column c =
    omega (arith, leads_end (floor_map c.args.floor.now) _ _ _ c.change-change.ensures _ c.permitted.ensures c.if-not-permitted.false, c.args.floor.now.sound)

pub overflow_sub-column : goal.overflow_sub-column
overflow_sub-column c =
    (leads_end (floor_map c.args.floor.now) _ _ _ c.change-change.ensures _ c.permitted.ensures c.if-not-permitted.false).some_column

pub overflow_add-row : goal.overflow_add-row
overflow_add-row c =
    omega (arith, leads_end (floor_map c.args.floor.now) _ _ _ c.change-change.ensures _ c.permitted.ensures c.if-not-permitted.false, c.args.floor.now.sound)

pub overflow_sub-row : goal.overflow_sub-row
overflow_sub-row c =
    (leads_end (floor_map c.args.floor.now) _ _ _ c.change-change.ensures _ c.permitted.ensures c.if-not-permitted.false).some_row

pub cell_of-requires : goal.cell_of-requires
cell_of-requires c =
    let end = leads_end (floor_map c.args.floor.now) _ _ _ c.change-change.ensures _ c.permitted.ensures c.if-not-permitted.false in
    (omega (arith, end), omega (arith, end))

pub returns : goal.returns
returns c =
    ap (λ (y : ℕ). Some y) c.cell_of.ensures
    ∙ leads_to (floor_map c.args.floor.now) _ _ _ c.change-change.ensures _ c.permitted.ensures c.if-not-permitted.false
