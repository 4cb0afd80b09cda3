-- No second answer meets the contract of `read`, of `ask_query` or of `query_at`.
use mathlib.Core.Path.{◌≡◌, sym, ◌∙◌, ap}
use mathlib.Core.List.{List}
use Prim.Native.Nat.{ℕ}
use lib.ListN.{get_or}
use Rattle.std.specs.Prelude.{Result}
use Rattle.answers.specs.declared.Refusal.{Refusal}
use Rattle.answers.proofs.Refusals.{gives_apart, answered_once}
use Rattle.plan.specs.declared.Query.{Query}
use Rattle.plan.specs.Reads.{query_given, Asks}
use Rattle.plan.proofs.Only.{reads_only}
use Rattle.plan.proofs.read.Reads as read-reads
use Rattle.plan.proofs.ask_query.Reads as ask-query-reads
use Rattle.plan.proofs.query_at.Reads as query-at-reads

pub read_only : (κs : _) (a : _) (r r' : _) (x x' : _) → read-reads.Post κs a r x → read-reads.Post κs a r' x' → r ≡ r'
read_only κs a r r' x x' p q = reads_only _ r r' p q

-- what is given back tells the queries apart
query_from : List ℕ → Query
query_from vs =
    record { start_col = get_or vs 0 0; start_row = get_or vs 1 0; goal_col = get_or vs 2 0; goal_row = get_or vs 3 0 }

queries_apart : (p q : Query) → query_given p ≡ query_given q → p ≡ q
unfolding query_from
queries_apart p q e = ap query_from e

pub asks_only : (bytes : List ℕ) (at : ℕ) (r r' : Result Query Refusal) → Asks bytes at r → Asks bytes at r' → r ≡ r'
asks_only bytes at r r' p q =
    gives_apart query_given queries_apart r r' (answered_once _ (λ k l. k) (λ d e. (d ∙ sym e, tt)) p q).0

pub ask_query_only : (κs : _) (a : _) (r r' : _) (x x' : _) → ask-query-reads.Post κs a r x → ask-query-reads.Post κs a r' x' → r ≡ r'
ask_query_only κs a r r' x x' p q = asks_only _ _ r r' p q

pub query_at_only : (κs : _) (a : _) (r r' : _) (x x' : _) → query-at-reads.Post κs a r x → query-at-reads.Post κs a r' x' → r ≡ r'
query_at_only κs a r r' x x' p q = p ∙ sym q
