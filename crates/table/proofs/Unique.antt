-- No second answer and no second table meet the contract of filling, and no second answer that of checking, each as
-- the checker reads it.
use mathlib.Core.Path.{◌≡◌, refl, sym, ◌∙◌, ap}
use mathlib.Core.List.{List}
use Prim.Native.Nat.{ℕ, suc, ◌<◌}
use native.Mathlib.Omega.{arith}
use native.Mathlib.Decide.{dec_le}
use Rattle.answers.specs.declared.Refusal.TheVariants.{TableWrong}
use Rattle.answers.specs.Refusing.{Tested, Given, refused, gives, no_values}
use Rattle.answers.proofs.Refusals.{answered_once, gives_apart}
use Rattle.calls.specs.Calls.{ToGoal}
use Rattle.table_theory.specs.Made.{Judged}
use Rattle.table_theory.proofs.OneTable.{filled_unique}
use Rattle.table.specs.Answers.{Fills, Verdict, differs, right, Checks}
use Rattle.table.proofs.fill.Reads as fill-reads
use Rattle.table.proofs.check.Reads as check-reads

-- an answer with no values is told by what is given back
pub bare_apart : (r s : Tested) → gives no_values r ≡ gives no_values s → r ≡ s
bare_apart = gives_apart no_values (λ a b e. refl)

pub fills_only : (a : ToGoal) (old : List ℕ) (r r' : Tested) (new new' : List ℕ) → Fills a old r new → Fills a old r' new' → (r ≡ r') × (new ≡ new')
fills_only a old r r' new new' p q =
    let (g, b) = answered_once _ (λ k l. k ∙ sym l) (λ d e. (d.0 ∙ sym e.0, filled_unique _ _ _ new new' d.1 e.1)) p q in
    (bare_apart r r' g, b)

pub fill_only : (κs : _) (a : _) (r r' : _) (x x' : _) → fill-reads.Post κs a r x → fill-reads.Post κs a r' x'
    → (r ≡ r') × (x.1.1.0.now ≡ x'.1.1.0.now)
fill_only κs a r r' x x' p q = fills_only _ _ r r' _ _ p q

-- two lowest numbers are one
judged_once : (Right : ℕ → Type 0) (n a b : ℕ) → Judged Right n a → Judged Right n b → a ≡ b
judged_once Right n a b p q = by (dec_le (suc a) b) (dec_le (suc b) a)
  where
    by : Dec (a < b) → Dec (b < a) → a ≡ b
    by (yes h) k = absurd (p.wrong (omega (arith, q.within)) (q.before a h))
    by (no h) (yes k) = absurd (q.wrong (omega (arith, p.within)) (p.before b k))
    by (no h) (no k) = omega arith

-- there is one verdict, with one outcome of the buffers, where what follows it has one
pub verdict_once : {Same : Type 0} (Right : ℕ → Type 0) (n : ℕ) {K K' : Type 0} {T T' : Given → Type 0} (g h : Given)
    → (K → K' → Same) → (T g → T' h → (g ≡ h) × Same) → Verdict Right n K T g → Verdict Right n K' T' h → (g ≡ h) × Same
verdict_once Right n g h kept one (differs x u j e k) (differs y v i f l) =
    (e ∙ ap (λ (z : ℕ). refused (TableWrong z)) (judged_once Right n x y j i) ∙ sym f, kept k l)
verdict_once Right n g h kept one (differs x u j e k) (right i t) = absurd (j.wrong u (i.before x u))
verdict_once Right n g h kept one (right i t) (differs y v j f l) = absurd (j.wrong v (i.before y v))
verdict_once Right n g h kept one (right i t) (right j s) = one t s

pub checks_only : (a : ToGoal) (t : List ℕ) (r r' : Tested) → Checks a t r → Checks a t r' → r ≡ r'
checks_only a t r r' p q = bare_apart r r' (answered_once _ (λ k l. k) (verdict_once _ _ _ _ (λ k l. k) (λ d e. (d ∙ sym e, tt))) p q).0

pub check_only : (κs : _) (a : _) (r r' : _) (x x' : _) → check-reads.Post κs a r x → check-reads.Post κs a r' x' → r ≡ r'
check_only κs a r r' x x' p q = checks_only _ _ r r' p q
