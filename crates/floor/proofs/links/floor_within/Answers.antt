-- `floor::links::floor_within` meets its contract: sides that passed make a small product, and what passed 1 and 2 is a
-- floor.
use mathlib.Core.Path.{sym, ◌∙◌}
use native.Mathlib.Omega.{arith}
use Rattle.std.proofs.Common.{rules}
use Rattle.answers.specs.Refusing as refusing
use Rattle.answers.proofs.Refusals.{refuse_passed}
use Rattle.floor.specs.Lent.{given}
use Rattle.floor.specs.Refusals.{wrong_length}
use Rattle.floor.specs.Tests.{floor_tested}
use Rattle.floor.proofs.Reading.{small}
use Rattle.floor.proofs.Tested.{lower_sided, length_sound}
use Rattle.floor.proofs.links.floor_within.Goals as goal

pub overflow_mul-long : goal.overflow_mul-long
overflow_mul-long c =
    let m = c.args.map.now in
    let sided = lower_sided c.args.limit c.requires m.width m.height (sym c.sides_outside.ensures ∙ refuse_passed _ _ (sym c.in_ok-refuse.ensures)) in
    omega (arith, small m.height c.row_bytes.result sided.high (omega arith))

pub returns-in_err-refuse-2-clause-tested : goal.returns-in_err-refuse-2-clause-tested
unfolding floor_tested wrong_length refusing.first_refusal
returns-in_err-refuse-2-clause-tested c = search rules

pub invariant_of-floor : goal.invariant_of-floor
unfolding wrong_length
invariant_of-floor c = record {
  sound =
      length_sound c.args.limit c.requires (given c.args.map.now)
      (sym c.sides_outside.ensures ∙ refuse_passed _ _ (sym c.in_ok-refuse.ensures))
      (rw (← c.row_bytes.ensures) (refuse_passed _ _ (sym c.in_ok-refuse-2.ensures)));
}

pub returns-in_err-refuse-3-clause-tested : goal.returns-in_err-refuse-3-clause-tested
unfolding floor_tested wrong_length refusing.first_refusal
returns-in_err-refuse-3-clause-tested c = search rules

pub returns-clause-tested : goal.returns-clause-tested
unfolding floor_tested wrong_length refusing.first_refusal
returns-clause-tested c = search rules
