-- `fill_entries::entry_of` meets its contract: the mark where no length stands, else the parts of the key that the number
-- stands for, which are found without a difference below 0.
use mathlib.Core.Path.{ap₂, ◌∙◌}
use Prim.Native.Nat.{ℕ, ◌+◌, ◌*◌}
use native.Mathlib.Omega.{arith}
use Rattle.fill_entries.proofs.EntryParts.{packed_shut, packed_waits, packed_length, parts}
use Rattle.fill_entries.proofs.entry_of.Goals as goal

pub returns-then-number-eq0 : goal.returns-then-number-eq0
returns-then-number-eq0 c = packed_shut _ c.if-number-eq0.true

pub returns-then-number-ge-UNREACHED : goal.returns-then-number-ge-UNREACHED
returns-then-number-ge-UNREACHED c = packed_waits _ c.if-number-ge-UNREACHED.true

pub returns : goal.returns
returns c =
    let k = parts _ _ c.requires c.if-number-eq0.false c.if-number-ge-UNREACHED.false c.whole_of-more.ensures in
    ap₂ (λ (s d : ℕ). s * 65536 + d) (omega (arith, k.straight)) k.diagonal
    ∙ packed_length _ c.if-number-eq0.false c.if-number-ge-UNREACHED.false
