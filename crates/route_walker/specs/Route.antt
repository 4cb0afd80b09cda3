-- REFERENCE, "Routes and legs": the route is a shortest way, and of all shortest ways the first in dictionary order of
-- headings. That always taking the first heading that still lies on a shortest way gives it is `follows_first` and
-- `first_follows` of proofs/First.
use Rattle.std.specs.Prelude.{ℕ, ◌<◌, List, [], ◌∷◌}
use Rattle.lengths.specs.declared.Length.{Length}
use Rattle.lengths.specs.Order.{zero_length, ◌⊕◌}
use Rattle.steps.specs.Way.{Graph, Shortest}

-- the headings hs lead from x to y by permitted steps, over the length l
pub data Walk (G : Graph) : ℕ → ℕ → List ℕ → Length → Type 0 where
  stay : {x : ℕ} → Walk G x x [] zero_length
  step : {h x y z : ℕ} {hs : List ℕ} {l : Length} → G.Step h x y → Walk G y z hs l → Walk G x z (h ∷ hs) (l ⊕ G.weight h)

-- hs comes before ks in dictionary order, headings compared by their rank
pub data Before (rank : ℕ → ℕ) : List ℕ → List ℕ → Type 0 where
  shorter : {k : ℕ} {ks : List ℕ} → Before rank [] (k ∷ ks)
  lower : {h k : ℕ} {hs ks : List ℕ} → rank h < rank k → Before rank (h ∷ hs) (k ∷ ks)
  same : {h : ℕ} {hs ks : List ℕ} → Before rank hs ks → Before rank (h ∷ hs) (h ∷ ks)

-- hs is a shortest route from x to the goal, of length l
pub record ShortRoute (G : Graph) (Goal : ℕ → Type 0) (x : ℕ) (hs : List ℕ) (l : Length) : Type 0 where
  pub end : ℕ
  pub goal : Goal end
  pub walk : Walk G x end hs l
  pub short : Shortest G Goal x l

-- hs is the first of the shortest routes
pub record FirstRoute (G : Graph) (Goal : ℕ → Type 0) (rank : ℕ → ℕ) (x : ℕ) (hs : List ℕ) (l : Length) : Type 0 where
  pub route : ShortRoute G Goal x hs l
  pub first : (ks : List ℕ) (m : Length) → ShortRoute G Goal x ks m → ¬ Before rank ks hs
