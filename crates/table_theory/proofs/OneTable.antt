-- Two filled tables are equal: what an entry says of its cell is told by the cell.
use mathlib.Core.Path.{◌≡◌, refl, ap, sym, ◌∙◌}
use mathlib.Core.List.{List}
use Prim.Native.Nat.{ℕ, ◌<◌}
use native.Mathlib.Omega.{arith}
use lib.ListN.{get_or}
use lib.Seq.{ext_get_or}
use Rattle.steps.specs.Way.{Graph}
use Rattle.steps.proofs.Ways.{shortest_unique}
use Rattle.table_theory.specs.Entry.{Entry, mark, long, pack}
use Rattle.table_theory.specs.Filled.{Says, Filled}

pub says_unique : (G : Graph) (Goal : ℕ → Type 0) (x : ℕ) (e f : Entry) → Says G Goal x e → Says G Goal x f → e ≡ f
says_unique G Goal x mark mark p q = refl
says_unique G Goal x mark (long l) p q = absurd (p l q.way)
says_unique G Goal x (long l) mark p q = absurd (q l p.way)
says_unique G Goal x (long l) (long m) p q = ap long (shortest_unique p q)

pub filled_unique : (G : Graph) (Goal : ℕ → Type 0) (n : ℕ) (t u : List ℕ) → Filled G Goal n t → Filled G Goal n u → t ≡ u
filled_unique G Goal n t u a b = ext_get_or 4294967295 t u (a.size ∙ sym b.size) (λ x h. at x (omega (arith, a.size)))
  where
    at : (x : ℕ) → x < n → get_or t x 4294967295 ≡ get_or u x 4294967295
    at x h =
        let p = a.entries x h in
        let q = b.entries x h in
        p.same ∙ ap pack (says_unique G Goal x p.what q.what p.says q.says) ∙ sym q.same
