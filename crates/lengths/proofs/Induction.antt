-- An induction on lengths: below each one there are finitely many, counted among all pairs with parts up to some n (`rank`).
use mathlib.Core.Path.{◌≡◌, refl, sym, subst}
use mathlib.Core.Bool.{Bool, true, false, not}
use mathlib.Core.List.Memᴰ
use mathlib.Core.List.{List, [], ◌∷◌, ◌++◌, Memᴰ}
use mathlib.Core.WellFounded.{Acc}
use Prim.Native.Nat.{ℕ, zero, suc, ◌+◌, ◌*◌, ◌≤◌, ◌<◌}
use native.Mathlib.Omega.{arith}
use native.Mathlib.Decide.{ℕ_discrete}
use lib.Dec.{T}
use Rattle.lengths.specs.declared.Length.{Length}
use Rattle.lengths.specs.Order.{◌⊑◌, shorter}
use Rattle.lengths.proofs.Order.{◌⊏◌, length_ext, ⊏-⊑, ⊑_refl, ⊏_not, ⊏-⊑_trans, ⊑_trans, shorter_yes, shorter_no, steps_bound}

-- all lengths with parts up to n
abbrev row : ℕ → ℕ → List Length
row d zero = record { straight = 0; diagonal = d } ∷ []
row d (suc n) = record { straight = suc n; diagonal = d } ∷ row d n

abbrev rows : ℕ → ℕ → List Length
rows n zero = row zero n
rows n (suc k) = row (suc k) n ++ rows n k

in_row : (a : Length) (n : ℕ) → a.straight ≤ n → Memᴰ a (row a.diagonal n)
in_row a zero h = let e : a.straight ≡ 0 = omega arith in Memᴰ.head (length_ext e refl)
in_row a (suc n) h = by (ℕ_discrete a.straight (suc n)) (λ k. in_row a n k)
  where
    by : Dec (a.straight ≡ suc n) → (a.straight ≤ n → Memᴰ a (row a.diagonal n)) → Memᴰ a (row a.diagonal (suc n))
    by (yes e) ih = Memᴰ.head (length_ext e refl)
    by (no e) ih = Memᴰ.tail (ih (omega arith))

in_rows : (a : Length) (n k : ℕ) → a.straight ≤ n → a.diagonal ≤ k → Memᴰ a (rows n k)
in_rows a n zero h b = subst (λ (d : ℕ). Memᴰ a (row d n)) (omega arith) (in_row a n h)
in_rows a n (suc k) h b = by (ℕ_discrete a.diagonal (suc k)) (λ c. in_rows a n k h c)
  where
    by : Dec (a.diagonal ≡ suc k) → (a.diagonal ≤ k → Memᴰ a (rows n k)) → Memᴰ a (rows n (suc k))
    by (yes e) ih = Memᴰ.append_left (rows n k) (subst (λ (d : ℕ). Memᴰ a (row d n)) e (in_row a n h))
    by (no e) ih = Memᴰ.append_right (row (suc k) n) (ih (omega arith))

abbrev bit : Bool → ℕ
bit true = 1
bit false = 0

abbrev count : Length → List Length → ℕ
count a [] = 0
count a (z ∷ l) = bit (shorter z a) + count a l

-- how many lengths with parts up to n are shorter
pub rank : ℕ → Length → ℕ
rank n a = count a (rows n n)

bit_le : (t u : Bool) → (T t → T (not u) → ⊥) → bit t ≤ bit u
bit_le true true h = omega arith
bit_le true false h = absurd (h tt tt)
bit_le false u h = omega arith

bit_lt : (t u : Bool) → (T t → ⊥) → (T (not u) → ⊥) → bit t < bit u
bit_lt true u h k = absurd (h tt)
bit_lt false true h k = omega arith
bit_lt false false h k = absurd (k tt)

one_le : {a b : Length} → a ⊏ b → (z : Length) → bit (shorter z a) ≤ bit (shorter z b)
one_le {a} {b} h z =
    bit_le (shorter z a) (shorter z b) (λ p q. ⊏_not (⊏-⊑_trans (shorter_yes z a p) (⊏-⊑ h)) (shorter_no z b q))

one_lt : {a b : Length} → a ⊏ b → (z : Length) → a ≡ z → bit (shorter z a) < bit (shorter z b)
one_lt {a} {b} h z e =
    bit_lt (shorter z a) (shorter z b)
    (λ p. ⊏_not (shorter_yes z a p) (subst (λ (y : Length). a ⊑ y) e (⊑_refl a)))
    (λ q. ⊏_not h (subst (λ (y : Length). b ⊑ y) (sym e) (shorter_no z b q)))

count_le : {a b : Length} → a ⊏ b → (l : List Length) → count a l ≤ count b l
count_le h [] = omega arith
count_le {a} {b} h (z ∷ l) = omega (arith, one_le h z, count_le h l)

count_lt : {a b : Length} {l : List Length} → a ⊏ b → Memᴰ a l → count a l < count b l
count_lt {a} {b} h (Memᴰ.head {x = z} {xs = l} e) = omega (arith, one_lt h z e, count_le h l)
count_lt {a} {b} h (Memᴰ.tail {x = z} {xs = l} m) = omega (arith, one_le h z, count_lt h m)

pub rank_lt : (n : ℕ) (a b : Length) → a.straight ≤ n → a.diagonal ≤ n → a ⊏ b → rank n a < rank n b
unfolding rank
rank_lt n a b p q h = count_lt h (in_rows a n n p q)

-- no length has an endless chain of shorter ones below it
acc_below : (n k : ℕ) (b : Length) → ((a : Length) → a ⊑ b → (a.straight ≤ n) × (a.diagonal ≤ n)) → rank n b ≤ k → Acc ◌⊏◌ b
acc_below n zero b box q =
    Acc.intro b (λ a h. let in-box = box a (⊏-⊑ h) in absurd (omega (arith, rank_lt n a b in-box.0 in-box.1 h)))
acc_below n (suc k) b box q =
    Acc.intro b (λ a h. let in-box = box a (⊏-⊑ h) in
    acc_below n k a (λ c g. box c (⊑_trans g (⊏-⊑ h))) (omega (arith, rank_lt n a b in-box.0 in-box.1 h)))

pub acc : (b : Length) → Acc ◌⊏◌ b
acc b =
    let n : ℕ = b.straight + 2 * b.diagonal in
    acc_below n (rank n b) b (λ a h. let k = steps_bound h in (omega arith, omega arith)) (omega arith)
