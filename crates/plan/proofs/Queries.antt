-- Queries one after another: how many are counted where so many stand, and where each of them is.
use mathlib.Core.Path.{◌≡◌, refl, sym, ◌∙◌, ap}
use mathlib.Core.List.{List, [], ◌∷◌, ◌++◌}
use Prim.Native.Nat.{ℕ, zero, suc, ◌+◌, ◌*◌, ◌<◌, ◌≤◌}
use native.Mathlib.Omega.{arith}
use lib.ListN.{length, get_or, drop}
use lib.Seq.{drop-drop}
use Rattle.plan.specs.declared.Query.{Query}
use Rattle.plan.specs.Records.{number_in, query_content, query_record, query_records}
use Rattle.plan.specs.Break.{Wrong, Fixed}
use Rattle.plan.specs.Reads.{query_at}
use Rattle.plan.specs.inner.Steps.{and_more, count_from}
use Rattle.plan.proofs.Numbers.{number_read}
use Rattle.plan.proofs.Chain.{right_read, wrong_read, found_fixed_at, next_rest}

module _ (bytes rest : List ℕ) where
  -- so many queries, with a wrong record behind them unless no more are wanted, are counted
  pub count_right : (qs : List Query) (left at : ℕ) → drop at bytes ≡ query_records qs ++ rest → length qs ≤ left
      → (length qs < left → Wrong 4 (Fixed 8) rest) → count_from bytes left at ≡ length qs
  unfolding count_from
  count_right [] zero at e h stop = refl
  count_right [] (suc left) at e h stop =
      ap (and_more (count_from bytes left)) (wrong_read (drop at bytes) at 4 (Fixed 8) (rw e (stop (omega arith))) _ (found_fixed_at bytes at 4 8))
  count_right (q ∷ qs) zero at e h stop = absurd (omega arith)
  count_right (q ∷ qs) (suc left) at e h stop =
      ap (and_more (count_from bytes left)) (right_read (drop at bytes) at 4 (Fixed 8) (query_content q) _ e refl _ (found_fixed_at bytes at 4 8))
      ∙ ap suc
      (count_right qs left (at + 4 + 8) (next_rest bytes at 4 (query_content q) _ e) (omega arith) (λ less. stop (omega arith)))

-- a query whose record begins at an offset is the one read there
pub query_here : (bytes : List ℕ) (at : ℕ) (q : Query) (rest : List ℕ) → drop at bytes ≡ query_record q ++ rest → query_at bytes at ≡ q
query_here bytes at q rest e =
    let part : (n : ℕ) → number_in (drop (at + n) bytes) ≡ number_in (drop n (query_record q ++ rest)) =
    λ n. ap number_in (sym (drop-drop n at bytes) ∙ ap (drop n) e) in
    let start-col = part 4 ∙ number_read q.start_col _ in
    let start-row = part 6 ∙ number_read q.start_row _ in
    let goal-col = part 8 ∙ number_read q.goal_col _ in
    let goal-row = part 10 ∙ number_read q.goal_row _ in
    λ i. record { start_col = start-col i; start_row = start-row i; goal_col = goal-col i; goal_row = goal-row i }

-- and the i-th of several stands 12 bytes behind the one before it
pub query_among : (bytes : List ℕ) (qs : List Query) (at i : ℕ) (d : Query) → drop at bytes ≡ query_records qs → i < length qs
    → (k : ℕ) → k ≡ at + 12 * i → query_at bytes k ≡ get_or qs i d
query_among bytes [] at i d e h k p = absurd (omega arith)
query_among bytes (q ∷ qs) at zero d e h k p =
    let same : k ≡ at = omega arith in
    rw same (query_here bytes at q (query_records qs) e)
query_among bytes (q ∷ qs) at (suc i) d e h k p =
    query_among bytes qs (at + 4 + 8) i d (next_rest bytes at 4 (query_content q) (query_records qs) e) (omega arith) k (omega arith)
