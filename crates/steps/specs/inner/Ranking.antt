-- Orders of the eight headings, over which the theory of the first route is told.
use Rattle.std.specs.Prelude.{◌≡◌, refl, ℕ, ◌<◌}

-- an order of the eight headings: which one stands at each place, and the place of each
pub record Ranking : Type 0 where
  pub at : ℕ → ℕ
  pub rank : ℕ → ℕ
  pub at_below : (i : ℕ) → i < 8 → at i < 8
  pub rank_below : (h : ℕ) → h < 8 → rank h < 8
  pub rank_at : (i : ℕ) → i < 8 → rank (at i) ≡ i
  pub at_rank : (h : ℕ) → h < 8 → at (rank h) ≡ h

-- the headings as numbered
abbrev pub numbered : Ranking
numbered = record {
  at = λ i. i;
  rank = λ h. h;
  at_below = λ i b. b;
  rank_below = λ h b. b;
  rank_at = λ i b. refl;
  at_rank = λ h b. refl;
}
