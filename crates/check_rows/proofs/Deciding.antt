-- Comparing numbers decides whether a cell is right, over any set of permitted steps and of goal cells: an open cell is
-- right exactly if its number is the key of what its neighbours make it, a blocked one exactly if its number is the
-- wall's.
use mathlib.Core.Path.{◌≡◌, refl, ap, sym, subst, ◌∙◌}
use mathlib.Core.Bool.{Bool, true, false, true≢false}
use mathlib.Core.List.{List}
use Prim.Native.Nat.{ℕ, ◌+◌, ◌≤◌}
use native.Mathlib.Omega.{arith}
use lib.Dec.{T as Holds, eqb, eqb→eq, eqb_refl}
use lib.ListN.{get_or}
use borrow.Author.Tests.{eq-eqb, eqb-true}
use Rattle.answers.specs.Bools.{pick}
use Rattle.lengths.specs.declared.Length.{Length}
use Rattle.lengths.specs.Order.{◌⊕◌, ◌⊑◌}
use Rattle.lengths.proofs.Order.{⊑_antisym}
use Rattle.lengths.specs.inner.Keys.{key}
use Rattle.lengths.proofs.Keys.{key_order}
use Rattle.floor.specs.Floor.{Map}
use Rattle.steps.specs.inner.Leading.{lead_of}
use Rattle.steps.specs.Step.{steps_of}
use Rattle.steps.specs.Way.{Graph, Only}
use Rattle.steps.proofs.Leads.{to_step, from_step}
use Rattle.table_theory.specs.Entry.{Entry, mark, long, pack, parts_of, malformed, entry_at}
use Rattle.table_theory.specs.Made.{Least, Made, Right}
use Rattle.table_theory.specs.inner.Best.{made}
use Rattle.table_theory.proofs.Best.{graph, made_is, made_unique}
use Rattle.table_theory.proofs.Neighbours.{long_inj}
use Rattle.table_theory.proofs.Packing.{mark_formed, pack_inj}
use Rattle.check_rows.specs.inner.Level.{wall, key_of, open_number, number_of}
use Rattle.check_rows.proofs.CellNumbers.{EntryKind, the_mark, bad, good, kind, SmallEntry}

module _ (G : Graph) (Goal : ℕ → Type 0) (t : List ℕ) (x : ℕ) (e : Entry) (is : Made G Goal (entry_at t) x e)
    (only : (f : Entry) → Made G Goal (entry_at t) x f → f ≡ e) where
  -- the number of the cell's entry
  abbrev v : ℕ
  v = get_or t x 4294967295

  -- right is: well-formed, and what the neighbours make it
  rightly : malformed v ≡ false → v ≡ pack e → Right G Goal t x
  rightly f s = record { formed = f; what = e; made = is; same = s }

  packed : Right G Goal t x → v ≡ pack e
  packed p = p.same ∙ ap pack (only p.what p.made)

  same_key : (a b : Length) → a.straight ≤ 16384 → b.straight ≤ 16384 → key a ≡ key b → a ≡ b
  same_key a b p q e = ⊑_antisym (key_order a b (omega arith) (omega arith)) (key_order b a (omega arith) (omega arith))

  pub open_right : SmallEntry e → open_number v ≡ key_of e → Right G Goal t x
  open_right small n = by e refl (kind v) small n
    where
      by : (f : Entry) → e ≡ f → EntryKind v → SmallEntry f → open_number v ≡ key_of f → Right G Goal t x
      by mark p (the_mark a r b) s q = rightly (ap malformed a ∙ mark_formed) (a ∙ ap pack (sym p))
      by mark p (bad a r b) s q = absurd (omega arith)
      by mark p (good a w r b) s q = absurd (omega arith)
      by (long l) p (the_mark a r b) s q = absurd (omega arith)
      by (long l) p (bad a r b) s q = absurd (omega arith)
      by (long l) p (good a w r b) s q =
          let k : parts_of v ≡ l = same_key (parts_of v) l (omega arith) s.0 (sym b ∙ q) in
          rightly a (omega (arith, ap (λ (z : Length). z.straight) k, ap (λ (z : Length). z.diagonal) k, ap pack p))

  pub right_open : SmallEntry e → Right G Goal t x → open_number v ≡ key_of e
  right_open small p = by e (packed p) (kind v) small
    where
      by : (f : Entry) → v ≡ pack f → EntryKind v → SmallEntry f → open_number v ≡ key_of f
      by mark q (the_mark a r b) s = b
      by mark q (bad a r b) s = absurd (true≢false (sym a ∙ p.formed))
      by mark q (good a w r b) s = absurd (omega arith)
      by (long l) q (the_mark a r b) s = absurd (omega arith)
      by (long l) q (bad a r b) s = absurd (true≢false (sym a ∙ p.formed))
      by (long l) q (good a w r b) s = b ∙ ap key (long_inj (sym r ∙ pack_inj v l a s.0 s.1 q))

  -- a cell that is made the mark, as a blocked one is
  pub shut_right : e ≡ mark → number_of true v ≡ wall → Right G Goal t x
  unfolding number_of
  shut_right p q = by (eqb v 4294967295) refl q
    where
      by : (b : Bool) → eqb v 4294967295 ≡ b → wall + pick b 0 1 ≡ wall → Right G Goal t x
      by true k q = let a = eqb-true v 4294967295 k in rightly (ap malformed a ∙ mark_formed) (a ∙ ap pack (sym p))
      by false k q = absurd (omega arith)

  pub right_shut : e ≡ mark → Right G Goal t x → number_of true v ≡ wall
  unfolding number_of
  right_shut p q = rw (eq-eqb v 4294967295 (packed q ∙ ap pack p)) (omega arith)

-- what the neighbours make a cell goes by the steps out of it alone
made_along :
    (G G' : Graph) (Goal Goal' : ℕ → Type 0) (T : ℕ → Entry) (x : ℕ) → ((h y : ℕ) → G.Step h x y → G'.Step h x y)
    → ((h y : ℕ) → G'.Step h x y → G.Step h x y)
    → ((h : ℕ) → G.weight h ≡ G'.weight h) → (Goal x → Goal' x) → (Goal' x → Goal x) → (e : Entry) → Made G Goal T x e → Made G' Goal' T x e
made_along G G' Goal Goal' T x to from weigh goal goal' e k = record {
  at_goal = λ g. k.at_goal (goal' g);
  elsewhere = λ g. by e
      (k.elsewhere (λ a. g (goal a)));
}
  where
    by : (f : Entry) → Least G T x f → Least G' T x f
    by mark l = λ h y s. l h y (from h y s)
    by (long a) l =
        let (h, y, n, s, r, c) = l.0 in
        ((h, y, n, to h y s, r, c ∙ ap (λ (w : Length). n ⊕ w) (weigh h)), λ h y n s r. subst (λ (w : Length). a ⊑ n ⊕ w) (weigh h) (l.1 h y n (from h y s) r))

-- a test that tells the goal cells
pub record Tells (Goal : ℕ → Type 0) (goal : ℕ → Bool) : Type 0 where
  pub passes : (x : ℕ) → Goal x → Holds (goal x)
  pub passed : (x : ℕ) → Holds (goal x) → Goal x

pub tells_only : (g : ℕ) → Tells (Only g) (λ z. eqb z g)
tells_only g = record { passes = λ x e. subst (λ (n : ℕ). Holds (eqb x n)) e (eqb_refl x); passed = λ x. eqb→eq x g }

by_test : {A : Type 0} (b : Bool) → (Holds b → A) → (A → Holds b) → Dec A
by_test true p q = yes (p tt)
by_test false p q = no q

-- what the neighbours make a cell of the floor, for any goal cells that a test tells
module _ (m : Map) (Goal : ℕ → Type 0) (goal : ℕ → Bool) (tells : Tells Goal goal) (t : List ℕ) (x : ℕ) where
  pub floor_only : (e : Entry) → Made (steps_of m) Goal (entry_at t) x e → (f : Entry) → Made (steps_of m) Goal (entry_at t) x f → f ≡ e
  floor_only e a f b = made_unique (by_test (goal x) (tells.passed x) (tells.passes x)) b a

  pub floor_made : Made (steps_of m) Goal (entry_at t) x (made (lead_of m) goal (entry_at t) 8 x)
  floor_made =
      made_along (graph 8 (lead_of m)) (steps_of m) (λ z. Holds (goal z)) Goal (entry_at t) x
      (λ h y s. to_step m h x y s.0 s.1) (λ h y s. (s.heading, from_step m h x y s)) (λ h. refl) (tells.passed x) (tells.passes x) _
      (made_is (lead_of m) goal (entry_at t) 8 x)
