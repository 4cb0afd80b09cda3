-- The list of lines (`Prints`) and the lines of specs/Lines are the same: a list is what is printed exactly
-- if it has as many lines as there are, and each of them is the line with its number. So there is one such list at
-- most.
use mathlib.Core.Path.{◌≡◌, refl, ap, subst, sym, ◌∙◌}
use mathlib.Core.List.{List, [], ◌∷◌}
use Prim.Native.Nat.{ℕ, zero, suc, ◌+◌, ◌<◌}
use native.Mathlib.Omega.{arith}
use lib.ListN.{length, get_or}
use lib.Seq.{ext_get_or}
use Rattle.std.specs.Prelude.{Ok, Err}
use Rattle.answers.specs.declared.Refusal.{Refusal}
use Rattle.floor.specs.Floor.{Map}
use Rattle.plan.specs.declared.Plan.{Plan}
use Rattle.plan.specs.declared.Query.{Query}
use Rattle.plan.specs.Sound.{Contents, Sound}
use Rattle.plan.specs.Reads.{plan_of}
use Rattle.plan.proofs.Only.{one_contents}
use Rattle.print_text.specs.Text.{line}
use Rattle.print_line.specs.Head.{Head, head_line}
use Rattle.print_plan.specs.Query.{QueryNumbers}
use Rattle.print_plan.specs.Lines.{map_in, Heads, count_of, no_query, LineAt}
use Rattle.print_plan.proofs.OneLine.{one_head, one_line}
use Rattle.print_plan.proofs.HeadLines.{head_opened, opened_head}

-- the queries' lines, numbered from so much on
pub data QueryLines (m : Map) (size : ℕ) : ℕ → List Query → List (List ℕ) → Type 0 where
  none : {number : ℕ} → QueryLines m size number [] []
  next :
      {number : ℕ} {q : Query} {qs : List Query} {ns : List ℕ} {ls : List (List ℕ)} → QueryNumbers m size number q ns
      → QueryLines m size (suc number) qs ls → QueryLines m size number (q ∷ qs) (line ns ∷ ls)

-- the lines that are printed: a refusal's, or the floor's and then for each query its number from 1, and its answer
pub data Prints (input : List ℕ) : List (List ℕ) → Type 0 where
  refused : (f : Refusal) → Heads input (Err f) → Prints input (head_line (Err f) ∷ [])
  answered :
      (c : Contents) (ls : List (List ℕ)) → Sound input c → Heads input (Ok (plan_of c))
      → QueryLines (map_in c) c.size 1 c.queries ls → Prints input (head_line (Ok (plan_of c)) ∷ ls)

-- a line of a query
pub record Answers (m : Map) (size number : ℕ) (q : Query) (l : List ℕ) : Type 0 where
  pub numbers : List ℕ
  pub same : l ≡ line numbers
  pub are : QueryNumbers m size number q numbers

module _ (m : Map) (size : ℕ) where
  abbrev Each : ℕ → List Query → List (List ℕ) → Type 0
  Each number qs ls = (i : ℕ) → i < length qs → Answers m size (number + i) (get_or qs i no_query) (get_or ls i [])

  as_many : {number : ℕ} {qs : List Query} {ls : List (List ℕ)} → QueryLines m size number qs ls → length ls ≡ length qs
  as_many QueryLines.none = refl
  as_many (QueryLines.next n more) = ap suc (as_many more)

  each : {number : ℕ} {qs : List Query} {ls : List (List ℕ)} → QueryLines m size number qs ls → Each number qs ls
  each QueryLines.none i h = absurd (omega arith)
  each {number} (QueryLines.next {q = q} {ns = ns} n more) zero h =
      let e : number ≡ number + 0 = omega arith in
      record { numbers = ns; same = refl; are = subst (λ (k : ℕ). QueryNumbers m size k q ns) e n }
  each {number} (QueryLines.next {qs = qs} n more) (suc i) h =
      let a = each more i (omega arith) in
      let e : suc number + i ≡ number + suc i = omega arith in
      record { numbers = a.numbers; same = a.same; are = subst (λ (k : ℕ). QueryNumbers m size k (get_or qs i no_query) a.numbers) e a.are }

  gathered : (number : ℕ) (qs : List Query) (ls : List (List ℕ)) → length ls ≡ length qs → Each number qs ls → QueryLines m size number qs ls
  gathered number [] [] e f = QueryLines.none
  gathered number [] (l ∷ ls) e f = absurd (omega arith)
  gathered number (q ∷ qs) [] e f = absurd (omega arith)
  gathered number (q ∷ qs) (l ∷ ls) e f =
      let a = f 0 (omega arith) in
      let z : number + 0 ≡ number = omega arith in
      subst (λ (x : List ℕ). QueryLines m size number (q ∷ qs) (x ∷ ls)) (sym a.same)
      (QueryLines.next (subst (λ (k : ℕ). QueryNumbers m size k q a.numbers) z a.are)
      (gathered (suc number) qs ls (omega arith) (λ i h. later i (f (suc i) (omega arith)))))
    where
      later : (i : ℕ) → Answers m size (number + suc i) (get_or qs i no_query) (get_or ls i []) → Answers m size (suc number + i) (get_or qs i no_query) (get_or ls i [])
      later i b =
          let s : number + suc i ≡ suc number + i = omega arith in
          record { numbers = b.numbers; same = b.same; are = subst (λ (k : ℕ). QueryNumbers m size k (get_or qs i no_query) b.numbers) s b.are }

module _ (input : List ℕ) where
  abbrev All : List (List ℕ) → Type 0
  All ls = (i : ℕ) → i < length ls → LineAt input i (get_or ls i [])

  one : (l : List ℕ) → LineAt input 0 l → All (l ∷ [])
  one l a zero h = a
  one l a (suc i) h = absurd (omega arith)

  -- what is printed has as many lines as there are, and each is the line with its number
  pub printed_lines : (ls : List (List ℕ)) → Prints input ls → (h : Head) × Heads input h × (length ls ≡ count_of h) × All ls
  printed_lines ls (Prints.refused f a) = (Err f, a, refl, one _ (LineAt.first _ a))
  printed_lines ls (Prints.answered c qs s a q) = (Ok (plan_of c), a, omega (arith, as_many _ _ q), by)
    where
      by : All (head_line (Ok (plan_of c)) ∷ qs)
      by zero h = LineAt.first _ a
      by (suc i) h =
          let b = each _ _ q i (omega (arith, as_many _ _ q)) in
          let up : 1 + i ≡ suc i = omega arith in
          subst (LineAt input (suc i)) (sym b.same) (LineAt.query c i b.numbers s a (omega (arith, as_many _ _ q))
          (subst (λ (k : ℕ). QueryNumbers (map_in c) c.size k (get_or c.queries i no_query) b.numbers) up b.are))

  query_there : (c : Contents) → Sound input c → (i : ℕ) (l : List ℕ) → LineAt input (suc i) l
      → Answers (map_in c) c.size (1 + i) (get_or c.queries i no_query) l
  query_there c s i l (LineAt.query d n ns t a h q) = record {
    numbers = ns;
    same = refl;
    are = let up : suc i ≡ 1 + i = omega arith in
        subst (λ (k : ℕ). QueryNumbers (map_in c) c.size k (get_or c.queries i no_query) ns) up
        (subst (λ (x : Contents). QueryNumbers (map_in x) x.size (suc i) (get_or x.queries i no_query) ns) (one_contents t s) q);
  }

  -- and these lines are what is printed
  pub lines_printed : (ls : List (List ℕ)) (h : Head) → Heads input h → length ls ≡ count_of h → All ls → Prints input ls
  lines_printed [] (Err f) a e g = absurd (omega arith)
  lines_printed (l ∷ []) (Err f) a e g =
      subst (λ (x : List ℕ). Prints input (x ∷ [])) (one_line (LineAt.first _ a) (g 0 (omega arith))) (Prints.refused f a)
  lines_printed (l ∷ (k ∷ ls)) (Err f) a e g = absurd (omega arith)
  lines_printed [] (Ok p) a e g = absurd (omega arith)
  lines_printed (l ∷ ls) (Ok p) a e g =
      let o = head_opened a p refl in
      let c = o.taken.contents in
      let many : length ls ≡ length c.queries = omega (arith, ap (λ (k : Plan). k.queries) o.taken.plan) in
      let b = opened_head p o in
      subst (λ (x : List ℕ). Prints input (x ∷ ls)) (one_line (LineAt.first _ b) (g 0 (omega arith)))
      (Prints.answered c ls o.taken.sound b
      (gathered (map_in c) c.size 1 c.queries ls many (λ i h. query_there c o.taken.sound i (get_or ls i []) (g (suc i) (omega arith)))))

  -- one list of lines at most is printed
  pub printed_once : (ls ks : List (List ℕ)) → Prints input ls → Prints input ks → ls ≡ ks
  printed_once ls ks p q =
      let (h, a, n, f) = printed_lines ls p in
      let (k, b, m, g) = printed_lines ks q in
      let e : length ls ≡ length ks = n ∙ ap count_of (one_head a b) ∙ sym m in
      ext_get_or [] ls ks e (λ i u. one_line (f i u) (g i (omega arith)))
