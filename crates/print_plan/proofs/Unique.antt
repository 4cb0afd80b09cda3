-- No second answer and no second buffer meet the contract of printing, as the checker reads it: each line has one
-- text, and how many are written is known from their lengths.
use mathlib.Core.Path.{◌≡◌, ap, subst, sym, ◌∙◌}
use mathlib.Core.List.{List, []}
use Prim.Native.Nat.{ℕ, suc, ◌≤◌, ◌<◌}
use native.Mathlib.Omega.{arith}
use native.Mathlib.Decide.{dec_le}
use lib.ListN.{length, get_or, take, length-take}
use lib.Seq.{get_or-take, ext_get_or}
use Rattle.std.specs.Prelude.{Ok, Err}
use Rattle.plan.specs.Reads.{plan_of}
use Rattle.print_text.specs.Put.{put}
use Rattle.print_line.specs.Head.{Head}
use Rattle.print_plan.specs.declared.Printed.{Printed}
use Rattle.print_plan.specs.Shown.{joined, Shown}
use Rattle.print_plan.specs.Lines.{Heads, count_of, LineAt}
use Rattle.print_plan.proofs.OneLine.{one_head, one_line}
use Rattle.print_plan.proofs.print_lines.Reads as print-lines

-- a line that is printed is one of those there are
pub line_below : {input : List ℕ} {i : ℕ} {l : List ℕ} → LineAt input i l → (h : Head) → Heads input h → i < count_of h
line_below {input} {i} a h b = let (k, c, below) = by a in subst (λ (x : Head). i < count_of x) (one_head c b) below
  where
    some : (k : Head) → 0 < count_of k
    some (Err f) = omega arith
    some (Ok p) = omega arith

    by : {j : ℕ} {l : List ℕ} → LineAt input j l → (k : Head) × Heads input k × (j < count_of k)
    by (LineAt.first k c) = (k, c, some k)
    by (LineAt.query c j ns s a h q) = (Ok (plan_of c), a, omega arith)

module _ (input : List ℕ) (from : ℕ) (old : List ℕ) where
  module _ {r r' : Printed} {new new' : List ℕ} (a : Shown input from old r new) (b : Shown input from old r' new') where
    agree : (i : ℕ) → i < length a.shown → i < length b.shown → get_or a.shown i [] ≡ get_or b.shown i []
    agree i h k = one_line (a.are i h) (b.are i k)

    -- the shorter list of lines begins the longer one
    begins : length a.shown ≤ length b.shown → take (length a.shown) b.shown ≡ a.shown
    begins h =
        let n : length (take (length a.shown) b.shown) ≡ length a.shown = simp length-take (omega arith) in
        ext_get_or [] (take (length a.shown) b.shown) a.shown n
        (λ i k. get_or-take (length a.shown) b.shown i [] (omega arith) ∙ sym (agree i (omega arith) (omega arith)))

    -- no lines are left out while there is room
    not_fewer : length a.shown < length b.shown → ⊥
    not_fewer h =
        let below = line_below (b.are (length a.shown) h) a.head a.heads in
        let full = a.full (omega (arith, a.rest)) in
        let front = ap (λ (ls : List (List ℕ)). length (joined ls)) (begins (omega arith)) in
        omega (arith, b.room (length a.shown) h, a.written.follows)

  pub shown_only : (r r' : Printed) (new new' : List ℕ) → Shown input from old r new → Shown input from old r' new' → (r ≡ r') × (new ≡ new')
  shown_only r r' new new' a b =
      let n : length a.shown ≡ length b.shown =
      same_count (dec_le (suc (length a.shown)) (length b.shown)) (dec_le (suc (length b.shown)) (length a.shown)) in
      let e : a.shown ≡ b.shown = ext_get_or [] a.shown b.shown n (λ i h. agree a b i h (omega arith)) in
      let bytes : r.length ≡ r'.length =
      omega (arith, a.written.follows, b.written.follows, ap (λ (ls : List (List ℕ)). length (joined ls)) e) in
      let lines : r.lines ≡ r'.lines = omega (arith, a.count, b.count) in
      let left : r.left ≡ r'.left = omega (arith, a.rest, b.rest, ap count_of (one_head a.heads b.heads)) in (
        λ i. record { length = bytes i; lines = lines i; left = left i },
        a.written.written ∙ ap (λ (ls : List (List ℕ)). put old 0 (joined ls)) e ∙ sym b.written.written,
      )
    where
      same_count : Dec (length a.shown < length b.shown) → Dec (length b.shown < length a.shown) → length a.shown ≡ length b.shown
      same_count (yes p) q = absurd (not_fewer a b p)
      same_count (no p) (yes q) = absurd (not_fewer b a q)
      same_count (no p) (no q) = omega arith

pub print_lines_only : (κs : _) (a : _) (r r' : _) (x x' : _) → print-lines.Post κs a r x → print-lines.Post κs a r' x'
    → (r ≡ r') × (x.1.1.0.now ≡ x'.1.1.0.now)
print_lines_only κs a r r' x x' p q = shown_only _ _ _ r r' _ _ p.0 q.0
