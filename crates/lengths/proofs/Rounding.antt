-- The whole number nearest to m√2: there is only one, and a tie never occurs.
use mathlib.Core.Path.{◌≡◌, ap}
use mathlib.Core.Logic.{◌≢◌}
use Prim.Native.Nat.{ℕ, suc, ◌+◌, ◌-◌, ◌*◌, ◌/◌, ◌≤◌, ◌<◌}
use native.Mathlib.Nat.{mul-le-mul}
use native.Mathlib.Decide.{dec_le}
use native.Mathlib.Omega.{arith}
use Rattle.lengths.specs.declared.Length.{Length}
use Rattle.lengths.specs.Order.{◌⊕◌}
use Rattle.lengths.specs.Distance.{Nearest, Spoken}
use Rattle.lengths.proofs.Order.{◌⊏◌}
use Rattle.lengths.proofs.Rule.{Rule, common, fewer_diagonal, fewer_straight, rule}

pub no_tie : (m n : ℕ) → (2 * n + 1) * (2 * n + 1) ≢ 8 * (m * m)
no_tie m n e = omega arith

not_less : (m n k : ℕ) → Nearest m n → Nearest m k → n < k → ⊥
not_less m n k a b h =
    let p : 2 * n + 1 ≤ 2 * k - 1 = omega arith in
    omega (arith, mul-le-mul p p, a.above, b.below (omega arith))

pub nearest_unique : (m n k : ℕ) → Nearest m n → Nearest m k → n ≡ k
nearest_unique m n k a b = by (dec_le (suc n) k) (dec_le (suc k) n)
  where
    by : Dec (n < k) → Dec (k < n) → n ≡ k
    by (yes p) q = absurd (not_less m n k a b p)
    by (no p) (yes q) = absurd (not_less m k n b a q)
    by (no p) (no q) = omega arith

-- m weighed by the keys' ratio, which is a little above √2, and rounded down: nearest, or one less
module _ (m : ℕ) where
  abbrev pub by_keys : ℕ
  by_keys = m * 19601 / 13860

  pub kept_at_most : by_keys ≤ 2 * m
  kept_at_most = omega arith

  pub nearest_kept : m ≤ 1000 * 16383 → 8 * (m * m) ≤ (2 * by_keys + 1) * (2 * by_keys + 1) → Nearest m by_keys
  nearest_kept limit h =
      let n = by_keys in
      let few : m * m ≤ 16383000 * m = mul-le-mul limit (omega arith) in
      let most : m ≤ n = omega arith in
      record {
        above = omega (arith, h, no_tie m n);
        below = λ pos. let q : 13860 * (2 * n - 1) + 13860 ≤ 39202 * m = omega arith in omega (arith, mul-le-mul q q, few, most);
      }

  pub nearest_raised : (2 * by_keys + 1) * (2 * by_keys + 1) < 8 * (m * m) → Nearest m (by_keys + 1)
  nearest_raised h =
      let n = by_keys in
      let p : 19601 * m ≤ 13860 * (n + 1) = omega arith in
      let e : 2 * (n + 1) - 1 ≡ 2 * n + 1 = omega arith in
      record { above = omega (arith, mul-le-mul p p); below = λ pos. rw e h }

  pub raised_at_most : (2 * by_keys + 1) * (2 * by_keys + 1) < 8 * (m * m) → by_keys + 1 ≤ 2 * m
  raised_at_most h = by (dec_le (by_keys + 1) (2 * m))
    where
      by : Dec (by_keys + 1 ≤ 2 * m) → by_keys + 1 ≤ 2 * m
      by (yes p) = p
      by (no p) = let q : 2 * m ≤ by_keys = omega arith in omega (arith, mul-le-mul q q, h)

-- the distance spoken is the only such number
pub spoken_unique : (size : ℕ) (l : Length) (n k : ℕ) → Spoken size l n → Spoken size l k → n ≡ k
spoken_unique size l n k a b =
    omega (arith, a.sum, b.sum, nearest_unique (size * l.diagonal) a.part b.part a.nearest b.nearest)

-- the length in centimetres
abbrev pub centimetres : ℕ → Length → Length
centimetres size l = record { straight = size * l.straight; diagonal = size * l.diagonal }

-- it is within half a centimetre of the exact length: twice the length is below 2n + 1, and 2n is below twice the length and one
module _ (size : ℕ) (l : Length) (n : ℕ) (s : Spoken size l n) where
  abbrev twice : Length
  twice = centimetres size l ⊕ centimetres size l

  pub not_far_above : record { straight = 2 * n; diagonal = 0 } ⊏ twice ⊕ record { straight = 1; diagonal = 0 }
  not_far_above = (rule _ _).1 (by (dec_le s.part 0))
    where
      by : Dec (s.part ≤ 0) → Rule (record { straight = 2 * n; diagonal = 0 }) (twice ⊕ record { straight = 1; diagonal = 0 })
      by (yes z) = common (omega (arith, s.sum)) (omega arith) (omega (arith, s.sum))
      by (no z) =
          let m = size * l.diagonal in
          let e : 2 * n - (twice ⊕ record { straight = 1; diagonal = 0 }).straight ≡ 2 * s.part - 1 = omega (arith, s.sum) in
          let f : (twice ⊕ record { straight = 1; diagonal = 0 }).diagonal - 0 ≡ 2 * m = omega arith in
          fewer_diagonal (omega (arith, s.sum)) (omega arith)
          (omega (arith, s.nearest.below (omega arith), ap (λ (x : ℕ). x * x) e, ap (λ (x : ℕ). x * x) f))

  pub not_far_below : twice ⊏ record { straight = 2 * n + 1; diagonal = 0 }
  not_far_below =
      let m = size * l.diagonal in
      let e : 2 * n + 1 - twice.straight ≡ 2 * s.part + 1 = omega (arith, s.sum) in
      let f : twice.diagonal - 0 ≡ 2 * m = omega arith in
      (rule _ _).1
      (fewer_straight (omega (arith, s.sum)) (omega arith)
      (omega (arith, s.nearest.above, ap (λ (x : ℕ). x * x) e, ap (λ (x : ℕ). x * x) f)))
