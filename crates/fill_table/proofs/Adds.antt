-- A step adds its key to the key that a number stands for.
use mathlib.Core.Path.{◌≡◌, refl, ap, ap₂, ◌∙◌}
use Prim.Native.Nat.{ℕ, zero, suc, ◌+◌, ◌-◌, ◌*◌, ◌/◌, ◌%◌, ◌≤◌, ◌<◌}
use native.Mathlib.Omega.{arith}
use Rattle.lengths.specs.inner.Keys.{straight_key, key}
use Rattle.steps.specs.Heading.{weight, by_parity}
use Rattle.fill_steps.specs.inner.Work.{span, extra, raise, late_of, stepped}
use Rattle.fill_steps.proofs.Numbers.{late_bit, late_rest, early_rest, straight, diagonal}
use Rattle.fill_entries.specs.inner.Entries.{key_of, InBand}

-- a number made of its parts is taken apart
apart : (q r : ℕ) → r < span → ((q * span + r) / span ≡ q) × ((q * span + r) % span ≡ r)
apart q r b = (omega arith, omega arith)

-- a step adds its key, and leads from a place in a band to a place in a band
pub record Adds (h v : ℕ) : Type 0 where
  pub sum : key_of (stepped h v) ≡ key_of v + key (weight h)
  pub in_band : InBand v → InBand (stepped h v)

-- it does if it leads to q bands and r, and these make the sum
adds : (h v q r : ℕ) → stepped h v ≡ q * span + r → r < span → straight_key * q + r ≡ key_of v + key (weight h)
    → (InBand v → (raise ≤ r) × (r < raise + straight_key)) → Adds h v
adds h v q r e b sum rest =
    let p = apart q r b in
    let d : stepped h v / span ≡ q = ap (λ (n : ℕ). n / span) e ∙ p.0 in
    let m : stepped h v % span ≡ r = ap (λ (n : ℕ). n % span) e ∙ p.1 in
    record {
      sum = ap₂ (λ (i j : ℕ). straight_key * i + j) d m ∙ sum;
      in_band = λ k. record { low = omega (arith, m, rest k); high = omega (arith, m, rest k) };
    }

pub steps_add : (h v : ℕ) → Adds h v
steps_add h v = by (h % 2) refl (late_of v) refl
  where
    by : (b : ℕ) → h % 2 ≡ b → (l : ℕ) → late_of v ≡ l → Adds h v
    by zero e l f =
        let s = straight h v e in
        adds h v (v / span + 1) (v % span) (omega arith) (omega arith) (omega (arith, ap (λ (p : ℕ). key (by_parity p)) e)) (λ k. (k.low, k.high))
    by (suc zero) e zero f =
        let s = diagonal h v e in
        let r = early_rest v f in
        adds h v (v / span + 1) (v % span + extra) (omega arith) (omega arith) (omega (arith, ap (λ (p : ℕ). key (by_parity p)) e)) (λ k. omega (arith, k))
    by (suc zero) e (suc zero) f =
        let s = diagonal h v e in
        let r = late_rest v f in
        adds h v (v / span + 2) (v % span + extra - straight_key) (omega arith) (omega arith)
        (omega (arith, ap (λ (p : ℕ). key (by_parity p)) e)) (λ k. omega (arith, k))
    by (suc zero) e (suc (suc l)) f = absurd (omega (arith, late_bit v))
    by (suc (suc b)) e l f = absurd (omega arith)

-- numbers are ordered as the keys that they stand for
pub key_monotone : (u v : ℕ) → InBand u → InBand v → u ≤ v → key_of u ≤ key_of v
key_monotone u v p q le = omega (arith, p, q)
