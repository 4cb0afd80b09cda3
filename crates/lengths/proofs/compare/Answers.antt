-- `lengths::compare` meets its contract: a refusal is the first that holds, and lengths that passed the tests are
-- compared.
use Rattle.lengths.proofs.Tested.{within_passed}
use Rattle.answers.proofs.Refusals.{ends_here, goes_on, comes_through, handed_up}
use Rattle.lengths.proofs.Exits.{ordered}
use Rattle.lengths.proofs.compare.Goals as goal

pub returns-in_err-test_parts : goal.returns-in_err-test_parts
returns-in_err-test_parts c = handed_up _ _ _ _ c.from_residual.ensures (ends_here _ _ _ c.in_err-test_parts.ensures tt)

pub returns-in_err-test_parts-2 : goal.returns-in_err-test_parts-2
returns-in_err-test_parts-2 c =
    handed_up _ _ _ _ c.from_residual-in_err-test_parts-2.ensures
    (goes_on _ _ _ c.in_ok-test_parts.ensures (ends_here _ _ _ c.in_err-test_parts-2.ensures tt))

pub shorter-requires : goal.shorter-requires
shorter-requires c = record {
  first_within = within_passed _ _ c.in_ok-test_parts.ensures;
  second_within = within_passed _ _ c.in_ok-test_parts-2.ensures;
}

pub returns : goal.returns
returns c =
    goes_on _ _ _ c.in_ok-test_parts.ensures
    (goes_on _ _ _ c.in_ok-test_parts-2.ensures (comes_through _ (ordered _ _ c.shorter.ensures)))
