-- Cells are parted one by one: the first stands where it belongs; the next one is swapped to where the ready ones end,
-- and is one of them if it is below the limit. What stood there waits, and still stands behind the ready ones.
use Rattle.std.proofs.Common.{◌≡◌, ℕ, ◌+◌, ◌<◌, ◌≤◌, ◌≢◌, ◌↔◌, List, get_or, refl, ap, sym, subst, ◌∙◌, arith, IsTrue, Bool, true, false}
use mir.Val.{bool_byte}
use native.Mathlib.Decide.{dec_le, ℕ_discrete}
use Rattle.std.proofs.lemmas.List.Edits.{Swapped}
use Rattle.fill_steps.specs.inner.Work.{at}
use Rattle.fill_steps.specs.inner.Band.{Listed}
use Rattle.fill_bands.specs.inner.Pass.{Parted}
use Rattle.fill_bands.proofs.Kept.{wider}

-- r is 1 if v is below limit, else 0
pub record Below (v limit r : ℕ) : Type 0 where
  pub most : r ≤ 1
  pub one : 0 < r → v < limit
  pub none : r ≡ 0 → limit ≤ v

pub counted : (b : Bool) (v limit r : ℕ) → r ≡ bool_byte b → (IsTrue b ↔ (v < limit)) → Below v limit r
counted true v limit r e f = record { most = omega arith; one = λ m. f.0 refl; none = λ m. absurd (omega arith) }
counted false v limit r e f = record { most = omega arith; one = λ m. absurd (omega arith); none = λ m. grind arith }

-- the first cell stands where the ready ones end, and is one of them if it is below the limit
pub parted_one : (x : List ℕ) (limit mid : ℕ) (q : List ℕ) (r : ℕ) → Below (at x (get_or q mid 0)) limit r → Parted x limit mid (mid + 1) q q (mid + r)
parted_one x limit mid q r b = record {
  order = omega (arith, b.most);
  front = λ k m n. subst (λ (z : ℕ). at x (get_or q z 0) < limit) (omega (arith, b.most)) (b.one (omega arith));
  back = λ k m n. subst (λ (z : ℕ). limit ≤ at x (get_or q z 0)) (omega arith) (b.none (omega arith));
  kept = λ k m n. record { index = k; here = refl; after = m; before = n };
  old = λ k m n. record { index = k; here = refl; after = m; before = n };
  head = λ k m. refl;
  rest = λ k m. refl;
}

module _ (q q' : List ℕ) (i top : ℕ) (w : Swapped (λ k. get_or q k 0) (λ k. get_or q' k 0) i top) where
  -- a fact of every place, if it holds of the two that are swapped and of the others as they were
  each_swapped :
      (P : ℕ → ℕ → Type 0) → P top (get_or q i 0) → (i ≢ top → P i (get_or q top 0)) → ((k : ℕ) → k ≢ top → k ≢ i → P k (get_or q k 0))
      → (k : ℕ) → P k (get_or q' k 0)
  each_swapped P first second other k = by (ℕ_discrete k top) (ℕ_discrete k i)
    where
      by : Dec (k ≡ top) → Dec (k ≡ i) → P k (get_or q' k 0)
      by (yes e) d = subst (λ (z : ℕ). P z (get_or q' z 0)) (sym e) (subst (P top) (sym (w.1)) first)
      by (no n) (yes e) = subst (λ (z : ℕ). P z (get_or q' z 0)) (sym e) (subst (P i) (sym (w.0)) (second (λ d. n (e ∙ d))))
      by (no n) (no m) = subst (P k) (sym (w.2 k m n)) (other k n m)

module _ (x : List ℕ) (limit mid i : ℕ) (q₀ q q' : List ℕ) (top r : ℕ) (s : Parted x limit mid i q₀ q top) (w : Swapped (λ k. get_or q k 0) (λ k. get_or q' k 0) i top)
    (b : Below (at x (get_or q i 0)) limit r) where
  -- the next cell is as it was
  next : get_or q i 0 ≡ get_or q₀ i 0
  next = s.rest i (omega arith)

  -- what stood before it still does, or stands where it stood
  moved : (z : ℕ) → Listed q mid i z → Listed q' mid (i + 1) z
  moved z l = by (ℕ_discrete l.index top)
    where
      by : Dec (l.index ≡ top) → Listed q' mid (i + 1) z
      by (yes e) = record {
        index = i;
        here = w.0 ∙ ap (λ (k : ℕ). get_or q k 0) (sym e) ∙ l.here;
        after = omega (arith, l.after, l.before);
        before = omega arith;
      }
      by (no e) = record {
        index = l.index;
        here = w.2 l.index (omega (arith, l.before)) e ∙ l.here;
        after = l.after;
        before = omega (arith, l.before);
      }

  kept : (k : ℕ) → mid ≤ k → k < i + 1 → Dec (k ≡ i) → Listed q' mid (i + 1) (get_or q₀ k 0)
  kept k m n (yes e) = record {
    index = top;
    here = w.1 ∙ next ∙ ap (λ (z : ℕ). get_or q₀ z 0) (sym e);
    after = s.order.0;
    before = omega (arith, s.order);
  }
  kept k m n (no e) = moved (get_or q₀ k 0) (s.kept k m (omega arith))

  old : (k : ℕ) → mid ≤ k → k < i → Listed q₀ mid (i + 1) (get_or q k 0)
  old k m n = wider q₀ mid i mid (i + 1) (get_or q k 0) (omega arith) (omega arith) (s.old k m n)

  pub parted_step : Parted x limit mid (i + 1) q₀ q' (top + r)
  parted_step = record {
    order = omega (arith, s.order, b.most);
    front =
        each_swapped q q' i top w (λ k v. mid ≤ k → k < top + r → at x v < limit)
        (λ m n. b.one (omega arith))
        (λ e m n. absurd (omega (arith, s.order, b.most)))
        (λ k e f m n. s.front k m (omega (arith, b.most)));
    back =
        each_swapped q q' i top w (λ k v. top + r ≤ k → k < i + 1 → limit ≤ at x v)
        (λ m n. b.none (omega arith))
        (λ e m n. s.back top (omega arith) (omega (arith, s.order)))
        (λ k e f m n. s.back k (omega arith) (omega arith));
    kept = λ k m n. kept k m n (ℕ_discrete k i);
    old =
        each_swapped q q' i top w (λ k v. mid ≤ k → k < i + 1 → Listed q₀ mid (i + 1) v)
        (λ m n. record { index = i; here = sym next; after = omega (arith, s.order); before = omega arith })
        (λ e m n. old top s.order.0 (omega (arith, s.order)))
        (λ k e f m n. old k m (omega arith));
    head = λ k m. w.2 k (omega (arith, s.order)) (omega (arith, s.order)) ∙ s.head k m;
    rest = λ k m. w.2 k (omega arith) (omega (arith, s.order)) ∙ s.rest k (omega arith);
  }

-- the last one was parted
pub parted_all :
    (x : List ℕ) (limit mid i t : ℕ) (q q' : List ℕ) (top : ℕ) → Parted x limit mid i q q' top → i ≤ t → t ≤ i → Parted x limit mid t q q' top
parted_all x limit mid i t q q' top s m n = subst (λ (k : ℕ). Parted x limit mid k q q' top) (omega arith) s

-- the cells right before them are below the limit too, so that all of them together are parted
pub parted_before :
    (x : List ℕ) (limit mid fresh t : ℕ) (q q' : List ℕ) (top : ℕ) → Parted x limit fresh t q q' top → mid ≤ fresh
    → ((k : ℕ) → mid ≤ k → k < fresh → at x (get_or q k 0) < limit) → Parted x limit mid t q q' top
parted_before x limit mid fresh t q q' top s order low = record {
  order = omega (arith, s.order);
  front = λ k m n. front k m n (dec_le fresh k);
  back = s.back;
  kept = λ k m n. kept k m n (dec_le fresh k);
  old = λ k m n. old k m n (dec_le fresh k);
  head = λ k m. s.head k (omega arith);
  rest = s.rest;
}
  where
    front : (k : ℕ) → mid ≤ k → k < top → Dec (fresh ≤ k) → at x (get_or q' k 0) < limit
    front k m n (yes e) = s.front k e n
    front k m n (no e) = omega (arith, low k m (omega arith), ap (at x) (s.head k (omega arith)))

    kept : (k : ℕ) → mid ≤ k → k < t → Dec (fresh ≤ k) → Listed q' mid t (get_or q k 0)
    kept k m n (yes e) = wider q' fresh t mid t (get_or q k 0) order (omega arith) (s.kept k e n)
    kept k m n (no e) = record { index = k; here = s.head k (omega arith); after = m; before = n }

    old : (k : ℕ) → mid ≤ k → k < t → Dec (fresh ≤ k) → Listed q mid t (get_or q' k 0)
    old k m n (yes e) = wider q fresh t mid t (get_or q' k 0) order (omega arith) (s.old k e n)
    old k m n (no e) = record { index = k; here = sym (s.head k (omega arith)); after = m; before = n }
