-- What a step makes of a number, and how far it leads.
use Rattle.std.proofs.Common.{◌≡◌, ℕ, zero, suc, ◌+◌, ◌*◌, ◌%◌, ◌<◌, ◌≤◌, refl, ap, arith}
use Rattle.fill_steps.specs.inner.Work.{span, half, gap, extra, late_of, stepped_by, stepped}

pub late_bit : (v : ℕ) → late_of v ≤ 1
unfolding late_of
late_bit v = omega arith

pub late_rest : (v : ℕ) → late_of v ≡ 1 → half ≤ v % span
unfolding late_of
late_rest v e = omega arith

pub early_rest : (v : ℕ) → late_of v ≡ 0 → v % span < half
unfolding late_of
early_rest v e = omega arith

-- a step's heading counts by its parity
pub like : (h j v : ℕ) → h % 2 ≡ j % 2 → stepped h v ≡ stepped j v
unfolding stepped
like h j v e = ap (λ (b : ℕ). stepped_by b v) e

pub straight : (h v : ℕ) → h % 2 ≡ 0 → stepped h v ≡ v + span
unfolding stepped
straight h v e = ap (λ (b : ℕ). stepped_by b v) e

pub diagonal : (h v : ℕ) → h % 2 ≡ 1 → stepped h v ≡ v + (span + extra + gap * late_of v)
unfolding stepped
diagonal h v e = ap (λ (b : ℕ). stepped_by b v) e

-- a step is one band long at least, and two at most
pub record Stretch (h v : ℕ) : Type 0 where
  pub least : v + span ≤ stepped h v
  pub most : stepped h v ≤ v + 2 * span

pub stretch : (h v : ℕ) → Stretch h v
stretch h v = by (h % 2) refl
  where
    by : (b : ℕ) → h % 2 ≡ b → Stretch h v
    by zero e = let s = straight h v e in record { least = omega arith; most = omega arith }
    by (suc zero) e = let s = diagonal h v e in record { least = omega arith; most = omega (arith, late_bit v) }
    by (suc (suc b)) e = absurd (omega arith)

-- what is longer than one band is diagonal
pub longer : (h v : ℕ) → v + span < stepped h v → h % 2 ≡ 1
longer h v l = by (h % 2) refl
  where
    by : (b : ℕ) → h % 2 ≡ b → h % 2 ≡ 1
    by zero e = absurd (omega (arith, straight h v e))
    by (suc zero) e = e
    by (suc (suc b)) e = absurd (omega arith)
