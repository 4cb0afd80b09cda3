-- `fill_steps::is_new` meets its contract: the `xor` of two numbers of 32 digits has the first digit 1 where theirs differ.
use Rattle.std.proofs.Common.{◌≡◌, ℕ, zero, suc, ◌-◌, ◌*◌, ◌/◌, ◌<◌, ◌≤◌, refl, ◌∙◌, arith}
use Rattle.std.proofs.lemmas.Bool.{leb-true, le-leb}
use lib.Bits.{bit_xor, xor_shr}
use Rattle.fill_steps.specs.inner.Work.{unreached}
use Rattle.fill_steps.proofs.is_new.Goals as goal

digits : (u v : ℕ) → u ≤ 1 → v ≤ u → bit_xor u v ≡ u - v
digits zero zero a b = refl
digits (suc zero) zero a b = refl
digits (suc zero) (suc zero) a b = refl
digits zero (suc v) a b = absurd (omega arith)
digits (suc zero) (suc (suc v)) a b = absurd (omega arith)
digits (suc (suc u)) v a b = absurd (omega arith)

first-digit : (n m : ℕ) → n < 2 * unreached → m ≤ n → bit_xor n m / unreached ≡ n / unreached - m / unreached
first-digit n m a b = xor_shr n m 31 ∙ digits (n / unreached) (m / unreached) (omega arith) (omega arith)

pub returns : goal.returns
returns c =
    let e = first-digit _ _ (omega arith) c.requires in
    (λ t. let k = leb-true _ _ t in omega (arith, e), λ k. le-leb _ _ (omega (arith, e, k)))
