-- The loop that counts queries: what holds at each turn.
use mathlib.Core.Path.{◌≡◌, sym}
use mathlib.Core.List.{List}
use Prim.Native.Nat.{ℕ, zero, suc, ◌+◌, ◌-◌, ◌<◌, ◌≤◌}
use native.Mathlib.Omega.{arith}
use Rattle.std.specs.Prelude.{Option, Some, None}
use Rattle.plan.specs.declared.Content.{Content}
use Rattle.plan.specs.inner.Steps.{fixed_record_at, and_more, count_from}

-- no more than are wanted are counted
pub count_few : (bytes : List ℕ) (left at : ℕ) → count_from bytes left at ≤ left
unfolding count_from
count_few bytes zero at = omega arith
count_few bytes (suc left) at = go (count_few bytes left) (fixed_record_at bytes at 4 8)
  where
    go : ((next : ℕ) → count_from bytes left next ≤ left) → (o : Option Content) → and_more (count_from bytes left) o ≤ suc left
    go h (Some c) = omega (arith, h c.next)
    go h None = omega arith

-- those that are counted, and those that still are to be, are all
abbrev pub Counting : List ℕ → ℕ → ℕ → ℕ → Type 0
Counting bytes first count at = count + count_from bytes (64 - count) at ≡ count_from bytes 64 first

module _ (bytes : List ℕ) (first count at : ℕ) (k : Counting bytes first count at) where
  pub counting_full : count ≡ 64 → 64 ≡ count_from bytes 64 first
  unfolding count_from
  counting_full h =
      let none : 64 - count ≡ 0 = omega arith in
      omega (arith, rw none at k)

  module _ (less : count < 64) where
    turn : {o : Option Content} → fixed_record_at bytes at 4 8 ≡ o → count_from bytes (64 - count) at ≡ and_more (count_from bytes (64 - (count + 1))) o
    unfolding count_from
    turn e =
        let step : 64 - count ≡ suc (64 - (count + 1)) = omega arith in
        rw (step, e)

    pub counting_stops : None ≡ fixed_record_at bytes at 4 8 → count ≡ count_from bytes 64 first
    counting_stops h = omega (arith, k, turn (sym h))

    pub counting_goes_on : (query : Content) → Some query ≡ fixed_record_at bytes at 4 8 → Counting bytes first (count + 1) query.next
    counting_goes_on query h = omega (arith, k, turn (sym h))
