-- REFERENCE, "Table": what the neighbours make a cell, and which cell the check names.
use Rattle.std.specs.Prelude.{◌≡◌, false, List, ℕ, ◌≤◌, ◌<◌, get_or}
use Rattle.lengths.specs.declared.Length.{Length}
use Rattle.lengths.specs.Order.{zero_length, ◌⊕◌, ◌⊑◌}
use Rattle.steps.specs.Way.{Graph}
use Rattle.table_theory.specs.Entry.{Entry, mark, long, pack, malformed, entry_at}

-- the least that a permitted step gives, the entry where it leads with the step added; the mark and malformed entries
-- give nothing, and where nothing is given it is the mark
abbrev pub Least : (G : Graph) → (ℕ → Entry) → ℕ → Entry → Type 0
Least G T x mark = (h y : ℕ) → G.Step h x y → T y ≡ mark
Least G T x (long l) =
    ((h : ℕ) × (y : ℕ) × (m : Length) × G.Step h x y × (T y ≡ long m) × (l ≡ m ⊕ G.weight h))
    × ((h y : ℕ) (m : Length) → G.Step h x y → T y ≡ long m → l ⊑ m ⊕ G.weight h)

-- the goal, (0, 0); any other cell, the least. A blocked cell has no permitted step, so it is made the mark
pub record Made (G : Graph) (Goal : ℕ → Type 0) (T : ℕ → Entry) (x : ℕ) (e : Entry) : Type 0 where
  pub at_goal : Goal x → e ≡ long zero_length
  pub elsewhere : ¬ Goal x → Least G T x e

-- the entry of cell x is not malformed, and is what its neighbours make it
pub record Right (G : Graph) (Goal : ℕ → Type 0) (t : List ℕ) (x : ℕ) : Type 0 where
  pub formed : malformed (get_or t x 4294967295) ≡ false
  pub what : Entry
  pub made : Made G Goal (entry_at t) x what
  pub same : get_or t x 4294967295 ≡ pack what

-- r is the lowest number below n that is not right, or n itself where all are
pub record Judged (Right : ℕ → Type 0) (n r : ℕ) : Type 0 where
  pub within : r ≤ n
  pub before : (y : ℕ) → y < r → Right y
  pub wrong : r < n → ¬ Right r
