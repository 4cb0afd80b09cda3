-- `Floor::past_width` meets its contract. The loop's invariant: no row so far has a bit set past the width. A row has
-- one exactly if its last byte, from the width's place on, is not clear (`row_clear`, `row_past`).
use mathlib.Core.Path.{◌≡◌, sym, ◌∙◌, ap, subst}
use Prim.Native.Nat.{ℕ, ◌+◌, ◌-◌, ◌*◌, ◌/◌, ◌%◌, ◌<◌}
use native.Mathlib.Omega.{arith}
use borrow.Author.Count.{below_more}
use lib.ListN.{get_or}
use Rattle.floor.specs.Floor.{Map, bytes_per_row}
use Rattle.floor.specs.Lent.{floor_map}
use Rattle.floor.proofs.Masks.{filled, row_clear, row_past, none_past, some_past}
use Rattle.floor.proofs.accepted.Floor.past_width.Goals as goal

-- the byte of a row that its last column stands in is the one in which the width ends
last_byte : (m : Map) (row byte : ℕ) → (m.width % 8 ≡ 0 → ⊥) → byte ≡ get_or m.bytes (row * bytes_per_row m.width + (m.width - 1) / 8) 0
    → byte ≡ get_or m.bytes (row * bytes_per_row m.width + m.width / 8) 0
last_byte m row byte some e =
    let same : (m.width - 1) / 8 ≡ m.width / 8 = omega arith in
    e ∙ ap (λ (k : ℕ). get_or m.bytes (row * bytes_per_row m.width + k) 0) same

pub returns-then-used-eq0 : goal.returns-then-used-eq0
returns-then-used-eq0 c = sym (filled (floor_map c.args.self.now) c.if-used-eq0.true)

pub returns-then-not-clear_from : goal.returns-then-not-clear_from
returns-then-not-clear_from c =
    let m = floor_map c.args.self.now in
    let row = c.loop-row.row in
    let last = last_byte m row c.byte_at.result c.if-used-eq0.false c.byte_at.ensures in
    sym
    (some_past m row c.loop-row-test.true
    (row_past m row c.if-used-eq0.false (subst (λ (b : ℕ). b < 256) last c.byte_at.type_inv)
    (rw (← last) (sym c.clear_from.ensures ∙ c.if-not-clear_from.true))))

pub loop-row-preserved : goal.loop-row-preserved
loop-row-preserved c =
    let m = floor_map c.args.self.now in
    let last = last_byte m c.loop-row.row c.byte_at.result c.if-used-eq0.false c.byte_at.ensures in
    below_more _ _ c.loop-row.invariant
    (row_clear m _ c.if-used-eq0.false (rw (← last) (sym c.clear_from.ensures ∙ c.if-not-clear_from.false)))

pub returns : goal.returns
returns c = sym (none_past (floor_map c.args.self.now) (λ k h. c.loop-row.invariant k (omega arith)))
