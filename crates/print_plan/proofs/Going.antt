-- Line after line in the buffer.
use mathlib.Core.Path.{◌≡◌, refl, ap, sym, ◌∙◌}
use mathlib.Core.List.{List, [], ◌∷◌, ◌++◌, append-nil, append_assoc}
use Prim.Native.Nat.{ℕ, ◌+◌, ◌-◌, ◌≤◌, ◌<◌}
use native.Mathlib.Omega.{arith}
use borrow.Author.Count.{below_more}
use lib.ListN.{length, get_or, take, length-append, get_or-append}
use lib.Seq.{take_at, take-append-le, get_or-append_seam}
use Rattle.print_text.specs.declared.Page.{Page}
use Rattle.print_text.specs.inner.Page.{HasRoom}
use Rattle.print_text.proofs.Pages.{wrote_nothing, wrote_then}
use Rattle.print_line.specs.Head.{Head}
use Rattle.print_plan.specs.declared.Printed.{Printed}
use Rattle.print_plan.specs.Shown.{joined, Shown}
use Rattle.print_plan.specs.Lines.{Heads, count_of, LineAt}
use Rattle.print_line.specs.LineRoom.{line_room}
use Rattle.print_line.specs.inner.Written.{Writes}
use Rattle.print_plan.specs.inner.Parts.{Progress}

joined_snoc : (ls : List (List ℕ)) (l : List ℕ) → joined (ls ++ (l ∷ [])) ≡ joined ls ++ l
joined_snoc [] l = append-nil l
joined_snoc (k ∷ ls) l = ap (λ (x : List ℕ). k ++ x) (joined_snoc ls l) ∙ sym (append_assoc k (joined ls) l)

module _ (input : List ℕ) (from : ℕ) (start : Page) where
  pub going_start : Progress input from start start from
  going_start = record {
    shown = [];
    are = λ i h. absurd (omega arith);
    wrote = wrote_nothing;
    upto = omega arith;
    room = λ i h. absurd (omega arith);
  }

  module _ (page new : Page) (next : ℕ) (front : start.at ≡ 0) (p : Progress input from start page next) (free : HasRoom line_room page) (w : Writes (LineAt input next) page new) where
    abbrev lines : List (List ℕ)
    lines = p.shown ++ (w.bytes ∷ [])

    all : length lines ≡ length p.shown + 1
    all = length-append p.shown (w.bytes ∷ [])

    -- what holds of the lines that were shown, and of the next one, holds of all
    each : (P : ℕ → Type 0) → ((i : ℕ) → i < length p.shown → P i) → P (length p.shown) → (i : ℕ) → i < length lines → P i
    each P before last i h = below_more P _ before last i (omega (arith, all))

    are_more : (i : ℕ) → i < length lines → LineAt input (from + i) (get_or lines i [])
    are_more =
        each (λ i. LineAt input (from + i) (get_or lines i [])) (λ i h. rw (get_or-append p.shown (w.bytes ∷ []) [] i h) (p.are i h))
        (rw (get_or-append_seam p.shown w.bytes [] [], ← p.upto) w.is)

    room_more : (i : ℕ) → i < length lines → length (joined (take i lines)) + line_room ≤ length start.out.now
    room_more =
        each (λ i. length (joined (take i lines)) + line_room ≤ length start.out.now)
        (λ i h. let le : i ≤ length p.shown = omega arith in rw (take-append-le i p.shown (w.bytes ∷ []) le) (p.room i h))
        (rw (take_at p.shown (w.bytes ∷ []) (length p.shown) refl) (omega arith))

    pub going_more : Progress input from start new (next + 1)
    going_more = record {
      shown = lines;
      are = are_more;
      wrote = rw joined_snoc (wrote_then p.wrote w.line_put.wrote);
      upto = omega (arith, p.upto, all);
      room = room_more;
    }

  -- where it stops
  pub going_shown : (page : Page) (next : ℕ) → start.at ≡ 0 → Progress input from start page next → (h : Head) → Heads input h → (r : Printed) → r.length ≡ page.at
      → r.lines ≡ next - from → r.left ≡ count_of h - next → (0 < r.left → length start.out.now < page.at + line_room) → Shown input from start.out.now r page.out.now
  going_shown page next front p h heads r e f g full = record {
    head = h;
    heads = heads;
    shown = p.shown;
    are = p.are;
    written = rw (front, ← e) at p.wrote.put;
    count = omega (arith, p.upto);
    rest = omega (arith, p.upto);
    room = p.room;
    full = λ h. let b = full h in omega arith;
  }
