-- The first cell of the middle row that differs meets its contract: where none differ, each is right, and else it is the
-- first that the test finds.
use mathlib.Core.Path.{◌≡◌, sym, ◌∙◌}
use mathlib.Core.Bool.{Bool, true, false}
use Prim.Native.Nat.{ℕ}
use Rattle.std.proofs.Common.{rules, tests}
use Rattle.std.proofs.lemmas.Iterator.{first_from_Range}
use Rattle.check_rows.specs.inner.Window.{differs_at}
use Rattle.check_rows.proofs.OneMore.{differing_zero, all_judged, found_first}
use Rattle.check_rows.proofs.window.Window.first_wrong.Goals as goal

pub returns-then-differing_in-eq0 : goal.returns-then-differing_in-eq0
returns-then-differing_in-eq0 c =
    all_judged _ _ (differing_zero _ _ _ _ (sym c.differing_in.ensures ∙ c.if-differing_in-eq0.true))

pub returns : goal.returns
returns c =
    let differs : ℕ → Bool = differs_at c.args.self.now.numbers c.args.row.goal c.args.row.first in
    found_first differs _ _
    (first_from_Range _ _ _ _ (λ i. differs i ≡ true) (λ i. differs i ≡ false) c.find.ensures.ran
    (λ i q k. search (rules, tests)) (λ i q k. (search rules, search (rules, tests))))
