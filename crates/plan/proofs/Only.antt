-- Bytes have one reading: no plan is sound and broken, none breaks at two places, and none has two contents.
use mathlib.Core.Path.{◌≡◌, refl, sym, ◌∙◌, ap, ap₂}
use mathlib.Core.List.{List, [], ◌∷◌}
use Prim.Native.Nat.{ℕ}
use native.Mathlib.Omega.{arith}
use lib.ListN.{length, get_or, take, drop}
use Rattle.std.specs.Prelude.{Result}
use Rattle.answers.specs.declared.Refusal.{Refusal}
use Rattle.answers.specs.Refusing.{gives}
use Rattle.answers.proofs.Refusals.{gives_apart}
use Rattle.plan.specs.declared.Query.{Query}
use Rattle.plan.specs.declared.Plan.{Plan}
use Rattle.plan.specs.Records.{query_records}
use Rattle.plan.specs.Sound.{Contents, Sound}
use Rattle.plan.specs.Break.{Broken}
use Rattle.plan.specs.Reads.{plan_of, plan_given, Reads}
use Rattle.plan.specs.inner.Steps.{reading_of}
use Rattle.plan.proofs.Queries.{query_here}
use Rattle.plan.proofs.Places.{map_there, queries_there}
use Rattle.plan.proofs.Answers.{sound_read, broken_read}

-- no bytes are sound and broken
pub not_both : {bytes : List ℕ} {c : Contents} {at : ℕ} → Sound bytes c → Broken bytes at → ⊥
not_both {bytes} {c} {at} s b =
    let e = sound_read bytes c s in
    let f = broken_read bytes at b in cc

-- no bytes break at two places
pub one_break : {bytes : List ℕ} {at at' : ℕ} → Broken bytes at → Broken bytes at' → at ≡ at'
one_break {bytes} {at} {at'} b b' =
    let e = broken_read bytes at b in
    let f = broken_read bytes at' b' in cc

-- the answer is known by what it gives back
plan_from : List ℕ → Plan
plan_from vs =
    let v : ℕ → ℕ = λ i. get_or vs i 0 in
    record { width = v 0; height = v 1; size = v 2; map_at = v 3; map_len = v 4; queries = v 5; first_query = v 6 }

plans_apart : (p q : Plan) → plan_given p ≡ plan_given q → p ≡ q
unfolding plan_from
plans_apart p q e = ap plan_from e

pub reading_apart : (r r' : Result Plan Refusal) → gives plan_given r ≡ gives plan_given r' → r ≡ r'
reading_apart r r' e = gives_apart plan_given plans_apart r r' e

-- the reader's answer is the steps' answer, so it is one
read_steps : (bytes : List ℕ) (r : Result Plan Refusal) → Reads bytes r → r ≡ reading_of bytes
read_steps bytes r (Reads.sound c s e) = reading_apart r _ e ∙ sym (sound_read bytes c s)
read_steps bytes r (Reads.broken at b e) = reading_apart r _ e ∙ sym (broken_read bytes at b)

pub reads_only : (bytes : List ℕ) (r r' : Result Plan Refusal) → Reads bytes r → Reads bytes r' → r ≡ r'
reads_only bytes r r' p q = read_steps bytes r p ∙ sym (read_steps bytes r' q)

-- queries are known by their records
queries_one : (qs qs' : List Query) → query_records qs ≡ query_records qs' → qs ≡ qs'
queries_one [] [] e = refl
queries_one [] (q ∷ qs) e = absurd (omega (arith, ap length e))
queries_one (q ∷ qs) [] e = absurd (omega (arith, ap length e))
queries_one (q ∷ qs) (q' ∷ qs') e =
    let same : q ≡ q' =
    sym (query_here (query_records (q ∷ qs)) 0 q (query_records qs) refl) ∙ query_here (query_records (q ∷ qs)) 0 q' (query_records qs') e in
    ap₂ (λ (x : Query) (xs : List Query). x ∷ xs) same (queries_one qs qs' (ap (drop 12) e))

-- no bytes have two contents
pub one_contents : {bytes : List ℕ} {c c' : Contents} → Sound bytes c → Sound bytes c' → c ≡ c'
one_contents {bytes} {c} {c'} s s' =
    let first = sound_read bytes c s in
    let second = sound_read bytes c' s' in
    let same : plan_of c ≡ plan_of c' = cc in
    let map : c.map ≡ c'.map =
    sym (map_there s) ∙ (ap (λ (p : Plan). take p.map_len (drop p.map_at bytes)) same ∙ map_there s') in
    let queries : c.queries ≡ c'.queries =
    queries_one c.queries c'.queries
    (sym (queries_there s) ∙ (ap (λ (p : Plan). drop p.first_query bytes) same ∙ queries_there s')) in
    λ i. record { width = (same i).width; height = (same i).height; map = map i; size = (same i).size; queries = queries i }
