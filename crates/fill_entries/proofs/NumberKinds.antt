-- What a number can be, and the entry that it then stands for.
use mathlib.Core.Path.{◌≡◌, refl, ap, ap₂}
use Prim.Native.Nat.{ℕ, suc, ◌-◌, ◌≤◌, ◌<◌}
use native.Mathlib.Omega.{arith}
use native.Mathlib.Decide.{dec_le, ℕ_discrete}
use Rattle.lengths.specs.inner.Keys.{pair}
use Rattle.table_theory.specs.Entry.{mark, long}
use Rattle.fill_steps.specs.inner.Work.{unreached}
use Rattle.fill_entries.specs.inner.Entries.{key_of, goal_key, entry_by, entry_of}

-- what a number can be
pub data NumberKind (v : ℕ) : Type 0 where
  shut : v ≡ 0 → entry_of v ≡ mark → NumberKind v
  waits : unreached ≤ v → entry_of v ≡ mark → NumberKind v
  reached : 0 < v → v < unreached → entry_of v ≡ long (pair (key_of v - goal_key)) → NumberKind v

pub kind : (v : ℕ) → NumberKind v
unfolding entry_of
kind v = by (ℕ_discrete v 0) refl (dec_le (suc v) unreached) refl
  where
    by : (a : Dec (v ≡ 0)) → ℕ_discrete v 0 ≡ a → (b : Dec (v < unreached)) → dec_le (suc v) unreached ≡ b → NumberKind v
    by (yes e) p b q = shut e (ap (λ (a : Dec (v ≡ 0)). entry_by v a (dec_le (suc v) unreached)) p)
    by (no e) p (yes b) q = reached (omega arith) b (ap₂ (entry_by v) p q)
    by (no e) p (no b) q = waits (omega arith) (ap₂ (entry_by v) p q)
