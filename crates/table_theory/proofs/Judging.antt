-- Every cell is right, by the check, exactly if the table is filled: over any set of permitted steps on n cells, n at
-- most 16,384, and any set of goal cells.
use mathlib.Core.Path.{◌≡◌, ap, sym, subst, ◌∙◌}
use mathlib.Core.Bool.{false}
use mathlib.Core.List.{List}
use Prim.Native.Nat.{ℕ, suc, ◌≤◌, ◌<◌}
use native.Mathlib.Omega.{arith}
use native.Mathlib.Decide.{dec_le}
use lib.ListN.{get_or, length, get_or-eq_default}
use Rattle.lengths.specs.declared.Length.{Length}
use Rattle.lengths.specs.inner.AtMost.{Within}
use Rattle.steps.specs.Way.{Graph, Way, stay, step, Reach}
use Rattle.steps.proofs.Bound.{bound}
use Rattle.table_theory.specs.Entry.{Entry, mark, long, pack, read, malformed, entry_at}
use Rattle.table_theory.specs.Filled.{Says, Filled}
use Rattle.table_theory.specs.Made.{Least, Made, Right}
use Rattle.table_theory.proofs.Neighbours.{long_inj, sound, complete}
use Rattle.table_theory.proofs.Packing.{read_mark, read_long, said_small, pack_read, mark_formed, long_formed, pack_inj}

module _ (G : Graph) (Goal : ℕ → Type 0) (goal? : (x : ℕ) → Dec (Goal x)) (n : ℕ) (fits : n ≤ 16384)
    (inside : (h x y : ℕ) → G.Step h x y → x < n) (goal_inside : (x : ℕ) → Goal x → x < n)
    (t : List ℕ) (size : length t ≡ n) where
  -- each part of what the neighbours make a cell is at most 16,384
  least_parts : (x : ℕ) (a : Length) → Least G (entry_at t) x (long a) → (a.straight ≤ 16384) × (a.diagonal ≤ 16384)
  least_parts x a k =
      let (h, y, m, s, q, e) = k.0 in
      let b = said_small (get_or t y 4294967295) m q in
      (omega (arith, ap (λ (z : Length). z.straight) e, G.one h, b.straight), omega (arith, ap (λ (z : Length). z.diagonal) e, G.one h, b.diagonal))

  made_parts : (x : ℕ) (a : Length) → Made G Goal (entry_at t) x (long a) → (a.straight ≤ 16384) × (a.diagonal ≤ 16384)
  made_parts x a m = by (goal? x)
    where
      by : Dec (Goal x) → (a.straight ≤ 16384) × (a.diagonal ≤ 16384)
      by (yes g) =
          let e = long_inj (m.at_goal g) in
          (omega (arith, ap (λ (z : Length). z.straight) e), omega (arith, ap (λ (z : Length). z.diagonal) e))
      by (no g) = least_parts x a (m.elsewhere g)

  -- a right cell says what its neighbours make it
  right_made : (x : ℕ) → Right G Goal t x → Made G Goal (entry_at t) x (entry_at t x)
  right_made x p = subst (Made G Goal (entry_at t) x) (sym (by p.what p.made p.same)) p.made
    where
      by : (e : Entry) → Made G Goal (entry_at t) x e → get_or t x 4294967295 ≡ pack e → entry_at t x ≡ e
      by mark m e = ap read e ∙ read_mark
      by (long a) m e = let b = made_parts x a m in pack_inj (get_or t x 4294967295) a p.formed b.0 b.1 e

  outside : (x : ℕ) → n ≤ x → entry_at t x ≡ mark
  outside x h = let k : length t ≤ x = omega arith in ap read (get_or-eq_default t 4294967295 k) ∙ read_mark

  outside_made : (x : ℕ) → n ≤ x → Made G Goal (entry_at t) x (entry_at t x)
  outside_made x h =
      subst (Made G Goal (entry_at t) x) (sym (outside x h))
      (record { at_goal = λ g. absurd (omega (arith, goal_inside x g)); elsewhere = λ g j y s. absurd (omega (arith, inside j x y s)) })

  rule : ((x : ℕ) → x < n → Right G Goal t x) → (x : ℕ) → Made G Goal (entry_at t) x (entry_at t x)
  rule all x = by (dec_le (suc x) n)
    where
      by : Dec (x < n) → Made G Goal (entry_at t) x (entry_at t x)
      by (yes h) = right_made x (all x h)
      by (no h) = outside_made x (omega arith)

  -- right everywhere, so filled
  pub right_filled : ((x : ℕ) → x < n → Right G Goal t x) → Filled G Goal n t
  right_filled all = record {
    size = size;
    entries = λ x h. record {
      what = entry_at t x;
      says = sound G Goal goal? (entry_at t) (rule all) x;
      same = sym
          (pack_read (get_or t x 4294967295) (all x h).formed);
    };
  }

  -- what a filled table's number says is what it packs
  said : (x : ℕ) (e : Entry) → Says G Goal x e → get_or t x 4294967295 ≡ pack e → (malformed (get_or t x 4294967295) ≡ false) × (entry_at t x ≡ e)
  said x mark s e = (ap malformed e ∙ mark_formed, ap read e ∙ read_mark)
  said x (long a) s e =
      let b = bound G Goal n inside goal_inside x a s in
      let w : Within a = record { straight = omega arith; diagonal = omega arith } in
      (ap malformed e ∙ long_formed a w, ap read e ∙ read_long a w)

  pub filled_says : Filled G Goal n t → (x : ℕ) → Says G Goal x (entry_at t x)
  filled_says f x = by (dec_le (suc x) n)
    where
      none : n ≤ x → (m : Length) → ¬ Reach G Goal x m
      none h m r = absurd (from r.1 r.2)
        where
          from : {g : ℕ} {m : Length} → Goal g → Way G x g m → ⊥
          from g stay = omega (arith, goal_inside x g)
          from g (step {h = j} {y = y} s w) = omega (arith, inside j x y s)

      by : Dec (x < n) → Says G Goal x (entry_at t x)
      by (yes h) = let e = f.entries x h in subst (Says G Goal x) (sym (said x e.what e.says e.same).1) e.says
      by (no h) = subst (Says G Goal x) (sym (outside x (omega arith))) (none (omega arith))

  -- filled, so right everywhere
  pub filled_right : Filled G Goal n t → (x : ℕ) → x < n → Right G Goal t x
  filled_right f x h =
      let e = f.entries x h in
      let w = (said x e.what e.says e.same).0 in
      record {
        formed = w;
        what = entry_at t x;
        made = complete G Goal goal? (entry_at t) (filled_says f) x;
        same = sym (pack_read (get_or t x 4294967295) w);
      }
