-- Lines after lines to a writer.
use Rattle.std.proofs.Common.{◌⊎◌, ◌≡◌, refl, sym, ap, ◌∙◌, ℕ, ◌+◌, ◌-◌, ◌≤◌, ◌<◌, List, [], ◌∷◌, ◌++◌, length, take, get_or, arith, append-nil, append_assoc}
use Rattle.std.specs.Prelude.{Option, None, Some}
use Rattle.std.specs.Io.KnownBytes.{Appends}
use Rattle.std.proofs.Math.ListN.{length-append, get_or-append}
use Rattle.std.proofs.Math.Seq.{get_or-append_right}
use native.Mathlib.Decide.{dec_le}
use mathlib.Core.Logic.{inl, inr}
use Rattle.print_text.proofs.Puts.{written_front}
use Rattle.print_line.specs.LineRoom.{line_room}
use Rattle.print_plan.specs.declared.Printed.{Printed}
use Rattle.print_plan.specs.Lines.{count_of, LineAt}
use Rattle.print_plan.specs.Shown.{joined, Shown}
use Rattle.print_plan.proofs.Unique.{line_below}
use Rattle.print_out.specs.inner.Printed.{LinesWritten}

-- so many lines, from the first on, were written
pub record Going (input : List ℕ) (from : ℕ) (old new : Option (List ℕ)) : Type 0 where
  pub shown : List (List ℕ)
  pub are : (i : ℕ) → i < length shown → LineAt input i (get_or shown i [])
  pub count : from ≡ length shown
  pub written : Appends old new (joined shown)

appends_nothing : (a : Option (List ℕ)) → Appends a a []
appends_nothing None = tt
appends_nothing (Some l) = sym (append-nil l)

appends_then : (a b c : Option (List ℕ)) (xs ys : List ℕ) → Appends a b xs → Appends b c ys → Appends a c (xs ++ ys)
appends_then None b c xs ys p q = tt
appends_then (Some l) None c xs ys p q = absurd p
appends_then (Some l) (Some m) None xs ys p q = absurd q
appends_then (Some l) (Some m) (Some n) xs ys p q = q ∙ ap (λ (k : List ℕ). k ++ ys) p ∙ append_assoc l xs ys

joined_append : (ls ks : List (List ℕ)) → joined (ls ++ ks) ≡ joined ls ++ joined ks
joined_append [] ks = refl
joined_append (l ∷ ls) ks = ap (λ (x : List ℕ). l ++ x) (joined_append ls ks) ∙ sym (append_assoc l (joined ls) (joined ks))

joined_none : (ls : List (List ℕ)) → length ls ≡ 0 → length (joined ls) ≡ 0
joined_none [] e = refl
joined_none (l ∷ ls) e = absurd (omega arith)

pub going_start : (input : List ℕ) (a : Option (List ℕ)) → Going input 0 a a
going_start input a = record { shown = []; are = λ i h. absurd (omega arith); count = refl; written = appends_nothing a }

module _ (input : List ℕ) (from : ℕ) (old mid new : Option (List ℕ)) (out out' : List ℕ) (r : Printed) (g : Going input from old mid) (s : Shown input from out r out')
    (w : Appends mid new (take r.length out')) where
  are_more : (i : ℕ) → i < length (g.shown ++ s.shown) → LineAt input i (get_or (g.shown ++ s.shown) i [])
  are_more i h =
      elim (dec_le (i + 1) (length g.shown)) [
        | yes front ↦ let below : i < length g.shown = omega arith in rw (get_or-append g.shown s.shown [] i below) (g.are i below)
        | no back ↦
            let past : length g.shown ≤ i = omega arith in
            let here : from + (i - length g.shown) ≡ i = omega (arith, g.count) in
            rw (get_or-append_right g.shown s.shown i [] past) (rw here at (s.are (i - length g.shown) (omega (arith, length-append g.shown s.shown))))
      ]

  pub going_more : Going input (from + r.lines) old new
  going_more = record {
    shown = g.shown ++ s.shown;
    are = are_more;
    count = omega (arith, length-append g.shown s.shown, g.count, s.count);
    written = rw joined_append (appends_then old mid new _ _ g.written (rw (written_front s.written) at w));
  }

  -- no more lines are written than there are
  within : from + r.lines ≤ count_of s.head
  within =
      let all = length-append g.shown s.shown in
      elim (dec_le (length (g.shown ++ s.shown)) (count_of s.head)) [
        | yes most ↦ omega (arith, g.count, s.count)
        | no more ↦ absurd (omega (arith, line_below (are_more (count_of s.head) (omega arith)) s.head s.heads))
      ]

  -- where none is written for want of room, the buffer has no room for any line
  none_left : (r.left ≡ 0) ⊎ ((r.left ≡ 0 → ⊥) × (r.lines ≡ 0)) → line_room ≤ length out → r.left ≡ 0
  none_left (inl none) wide = none
  none_left (inr (some, none)) wide =
      let empty = joined_none s.shown (omega (arith, s.count)) in
      let full = s.full (omega arith) in
      absurd (omega (arith, s.written.follows))

  pub all_written : (r.left ≡ 0) ⊎ ((r.left ≡ 0 → ⊥) × (r.lines ≡ 0)) → LinesWritten input (length out) old new
  all_written end = let more = going_more in
      record {
        head = s.head;
        heads = s.heads;
        shown = more.shown;
        are = more.are;
        written = more.written;
        all = λ wide. omega (arith, none_left end wide, s.rest, s.count, more.count, within);
      }
