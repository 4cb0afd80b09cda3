-- The order of lengths: total, transitive, equal only if the same pair (the root of two is no fraction), kept and cancelled by adding,
-- and a step is longer. The idea: p + q√2 against 0 is p² against 2q², and such comparisons add (`under_add`, `above_add`) and cancel.
use mathlib.Core.Path.{◌≡◌, ap, sym, subst, subst₂}
use mathlib.Core.Logic.{◌⊎◌, inl, inr, ◌≢◌}
use Prim.Native.Nat.{ℕ, zero, suc, ◌+◌, ◌-◌, ◌*◌, ◌≤◌, ◌<◌, ◌/◌, ◌%◌}
use native.Mathlib.Nat.{zero-sub, mul-pos, mul-le-mul, lt_of_not-le, le_refl}
use native.Mathlib.Decide.{dec_le, ℕ_discrete}
use native.Mathlib.Omega.{arith}
use mathlib.Core.Bool.{not}
use lib.Dec.{T, ltb→lt, nltb→le}
use Rattle.lengths.specs.declared.Length.{Length}
use Rattle.lengths.specs.Order.{zero_length, ◌⊕◌, steps, over, ◌⊑◌, shorter}

-- a is shorter than b
pub record ◌⊏◌ (a b : Length) : Type 0 where
  pub lt : over a b < over b a

infix 50 ◌⊏◌
-- p is at most q√2; q√2 is at most p
abbrev Under : ℕ → ℕ → Type 0
Under p q = p * p ≤ 2 * (q * q)

abbrev Above : ℕ → ℕ → Type 0
Above p q = 2 * (q * q) ≤ p * p

-- x * x ≤ y * y gives x ≤ y
sq_le : (x y : ℕ) → x * x ≤ y * y → x ≤ y
sq_le x y h = by_dec (dec_le x y)
  where
    by_dec : Dec (x ≤ y) → x ≤ y
    by_dec (yes g) = g
    by_dec (no g) =
        let k : suc y ≤ x = lt_of_not-le g in
        omega (arith, mul-le-mul k k)

cross : (p q u v : ℕ) → Under p q → Under u v → p * u ≤ 2 * (q * v)
cross p q u v h k = sq_le (p * u) (2 * (q * v)) (omega (arith, mul-le-mul h k))

under_add : (p q u v : ℕ) → Under p q → Under u v → Under (p + u) (q + v)
under_add p q u v h k = omega (arith, cross p q u v h k)

cross_above : (p q u v : ℕ) → Above p q → Above u v → 2 * (q * v) ≤ p * u
cross_above p q u v h k = sq_le (2 * (q * v)) (p * u) (omega (arith, mul-le-mul h k))

above_add : (p q u v : ℕ) → Above p q → Above u v → Above (p + u) (q + v)
above_add p q u v h k = omega (arith, cross_above p q u v h k)

under_cancel : (p q x y : ℕ) → Under (p + x) (q + y) → Above p q → Under x y
under_cancel p q x y h k = by_dec (dec_le (x * x) (2 * (y * y)))
  where
    by_dec : Dec (x * x ≤ 2 * (y * y)) → Under x y
    by_dec (yes g) = g
    by_dec (no g) =
        let j : 2 * (y * y) < x * x = lt_of_not-le g in
        omega (arith, cross_above x y p q (omega arith) k)

above_cancel : (p q x y : ℕ) → Above (p + x) (q + y) → Under p q → Above x y
above_cancel p q x y h k = by_dec (dec_le (2 * (y * y)) (x * x))
  where
    by_dec : Dec (2 * (y * y) ≤ x * x) → Above x y
    by_dec (yes g) = g
    by_dec (no g) =
        let j : x * x < 2 * (y * y) = lt_of_not-le g in
        omega (arith, cross x y p q (omega arith) k)

-- one of two is zero
abbrev Apart : ℕ → ℕ → Type 0
Apart x y = (x ≡ 0) ⊎ (y ≡ 0)

sub_apart : (a b : ℕ) → Apart (a - b) (b - a)
sub_apart a b = by_dec (dec_le a b)
  where
    by_dec : Dec (a ≤ b) → Apart (a - b) (b - a)
    by_dec (yes g) = inl (omega arith)
    by_dec (no g) = inr (omega arith)

pub sq_zero : {x : ℕ} → x ≡ 0 → x * x ≡ 0
sq_zero e = ap (λ (n : ℕ). n * n) e

split : (p p' q q' : ℕ) → Apart p p' → Apart q q' → p * p + 2 * (q * q) ≤ p' * p' + 2 * (q' * q') → Under p q' × Above p' q
split p p' q q' (inl e) (inl f) h = (omega (arith, sq_zero e), omega (arith, sq_zero f))
split p p' q q' (inl e) (inr f) h = (omega (arith, sq_zero e), omega (arith, sq_zero e, sq_zero f))
split p p' q q' (inr e) (inl f) h = (omega (arith, sq_zero e, sq_zero f), omega (arith, sq_zero f))
split p p' q q' (inr e) (inr f) h = (omega (arith, sq_zero e, sq_zero f), omega (arith, sq_zero e, sq_zero f))

shift : (p x p' z : ℕ) → p + x ≡ p' + z → z ≡ 0 → p' ≡ p + x
shift p x p' z m e = omega arith

-- the net of two differences
net :
    (p p' q q' x x' y y' : ℕ) → Apart x x' → Apart y y' → p + x' ≡ p' + x → q + y' ≡ q' + y → Under p q' → Above p' q → Under x y' × Above x' y
net p p' q q' x x' y y' (inl e) (inl f) m n h k = (omega (arith, sq_zero e), omega (arith, sq_zero f))
net p p' q q' x x' y y' (inl e) (inr f) m n h k = (
  omega (arith, sq_zero e),
  above_cancel p q' x' y (subst₂ Above (shift _ _ _ _ m e) (shift _ _ _ _ (sym n) f) k) h,
)
net p p' q q' x x' y y' (inr e) (inl f) m n h k = (
  under_cancel p' q x y' (subst₂ Under (shift _ _ _ _ (sym m) e) (shift _ _ _ _ n f) h) k,
  omega (arith, sq_zero f),
)
net p p' q q' x x' y y' (inr e) (inr f) m n h k =
    let a : Under (p' + x) q' = subst (λ (z : ℕ). Under z q') (shift _ _ _ _ (sym m) e) h in
    let b : Above p' (q' + y) = subst (λ (z : ℕ). Above p' z) (shift _ _ _ _ (sym n) f) k in
    (omega arith, omega arith)

over_split : (a b : Length) → a ⊑ b → Under (a.straight - b.straight) (b.diagonal - a.diagonal) × Above (b.straight - a.straight) (a.diagonal - b.diagonal)
unfolding over
over_split a b h = split _ _ _ _ (sub_apart a.straight b.straight) (sub_apart a.diagonal b.diagonal) h.le

over_join : (a b : Length) → Under (a.straight - b.straight) (b.diagonal - a.diagonal) → Above (b.straight - a.straight) (a.diagonal - b.diagonal) → a ⊑ b
unfolding over
over_join a b h k = omega arith

pub ⊑_refl : (a : Length) → a ⊑ a
⊑_refl a = omega arith

pub ⊑_total : (a b : Length) → (a ⊑ b) ⊎ (b ⊏ a)
⊑_total a b = by_dec (dec_le (over a b) (over b a))
  where
    by_dec : Dec (over a b ≤ over b a) → (a ⊑ b) ⊎ (b ⊏ a)
    by_dec (yes g) = inl (record { le = g })
    by_dec (no g) = inr (record { lt = lt_of_not-le g })

pub ⊑_trans : {a b c : Length} → a ⊑ b → b ⊑ c → a ⊑ c
⊑_trans {a} {b} {c} h k =
    let (u, v) = over_split a b h in
    let (w, z) = over_split b c k in
    let r = net (a.straight - b.straight + (b.straight - c.straight)) (b.straight - a.straight + (c.straight - b.straight)) (a.diagonal - b.diagonal + (b.diagonal - c.diagonal)) (b.diagonal - a.diagonal + (c.diagonal - b.diagonal))
    (a.straight - c.straight) (c.straight - a.straight) (a.diagonal - c.diagonal) (c.diagonal - a.diagonal)
    (sub_apart a.straight c.straight) (sub_apart a.diagonal c.diagonal)
    (omega arith) (omega arith)
    (under_add _ _ _ _ u w) (above_add _ _ _ _ v z) in
    over_join a c r.0 r.1

pub ⊏-⊑ : {a b : Length} → a ⊏ b → a ⊑ b
⊏-⊑ {a} {b} h = omega arith

pub ⊏_not : {a b : Length} → a ⊏ b → ¬ (b ⊑ a)
⊏_not h k = omega arith

pub not_⊏ : {a b : Length} → ¬ (b ⊑ a) → a ⊏ b
not_⊏ h = record { lt = lt_of_not-le (λ g. h (record { le = g })) }

pub ⊏-⊑_trans : {a b c : Length} → a ⊏ b → b ⊑ c → a ⊏ c
⊏-⊑_trans h k = not_⊏ (λ g. ⊏_not h (⊑_trans k g))

-- the root of two is no fraction: a step of the descent, and the descent
descend : (m p q : ℕ) → ((u v : ℕ) → u ≤ m → u * u ≡ 2 * (v * v) → u ≡ 0) → p ≤ suc m → p * p ≡ 2 * (q * q) → p ≡ 0
descend m p q ih h e = by_parity (dec_le (p % 2) 0)
  where
    r : ℕ
    r = p / 2

    sq : {x y : ℕ} → x ≡ y → x * x ≡ y * y
    sq f = ap (λ (n : ℕ). n * n) f

    small : Dec (p ≤ q) → p ≢ 0 → q ≤ m
    small (yes g) k = absurd (k (omega (arith, sq_le p 0 (omega (arith, mul-le-mul g g)))))
    small (no g) k = omega arith

    even : Dec (p ≡ 0) → p ≡ 2 * r → p ≡ 0
    even (yes g) f = g
    even (no g) f =
        let z : q ≡ 0 = ih q r (small (dec_le p q) g) (omega (arith, sq f)) in
        omega (arith, sq_le p 0 (omega (arith, sq_zero z)))

    by_parity : Dec (p % 2 ≤ 0) → p ≡ 0
    by_parity (yes g) = even (ℕ_discrete p 0) (omega arith)
    by_parity (no g) = let f : p ≡ 2 * r + 1 = omega arith in omega (arith, sq f)

irr : (m p q : ℕ) → p ≤ m → p * p ≡ 2 * (q * q) → p ≡ 0
irr zero p q h e = omega arith
irr (suc m) p q h e = descend m p q (irr m) h e

pub root_two : (p q : ℕ) → p * p ≡ 2 * (q * q) → (p ≡ 0) × (q ≡ 0)
root_two p q e =
    let z : p ≡ 0 = irr p p q (le_refl p) e in
    (z, omega (arith, sq_le q 0 (omega (arith, sq_zero z))))

equal : (p p' q q' : ℕ) → Apart p p' → Apart q q' → p * p + 2 * (q * q) ≡ p' * p' + 2 * (q' * q') → (p ≡ 0) × (p' ≡ 0) × (q ≡ 0) × (q' ≡ 0)
equal p p' q q' (inl e) (inl f) h = (e, omega (arith, sq_le p' 0 (omega (arith, sq_zero e, sq_zero f))), f, omega (arith, sq_le q' 0 (omega (arith, sq_zero e, sq_zero f))))
equal p p' q q' (inl e) (inr f) h = let r = root_two p' q (omega (arith, sq_zero e, sq_zero f)) in (e, r.0, r.1, f)
equal p p' q q' (inr e) (inl f) h = let r = root_two p q' (omega (arith, sq_zero e, sq_zero f)) in (r.0, e, f, r.1)
equal p p' q q' (inr e) (inr f) h = (omega (arith, sq_le p 0 (omega (arith, sq_zero e, sq_zero f))), e, omega (arith, sq_le q 0 (omega (arith, sq_zero e, sq_zero f))), f)

pub length_ext : {a b : Length} → a.straight ≡ b.straight → a.diagonal ≡ b.diagonal → a ≡ b
length_ext p q i = record { straight = p i; diagonal = q i }

-- equal in length only if the same pair
pub ⊑_antisym : {a b : Length} → a ⊑ b → b ⊑ a → a ≡ b
unfolding over
⊑_antisym {a} {b} h k = length_ext (omega (arith, r)) (omega (arith, r))
  where
    r : (a.straight - b.straight ≡ 0) × (b.straight - a.straight ≡ 0) × (a.diagonal - b.diagonal ≡ 0) × (b.diagonal - a.diagonal ≡ 0)
    r = equal _ _ _ _ (sub_apart a.straight b.straight) (sub_apart a.diagonal b.diagonal) (omega arith)

sub_shift : (x y z : ℕ) → x + z - (y + z) ≡ x - y
sub_shift x y z = omega arith

over_add : (a b c : Length) → over (a ⊕ c) (b ⊕ c) ≡ over a b
unfolding over
over_add a b c = simp sub_shift

-- adding one length to both sides keeps the order, both ways
pub ⊕_mono : {a b : Length} (c : Length) → a ⊑ b → a ⊕ c ⊑ b ⊕ c
⊕_mono {a} {b} c h = omega (arith, over_add a b c, over_add b a c)

pub ⊕_cancel : {a b : Length} (c : Length) → a ⊕ c ⊑ b ⊕ c → a ⊑ b
⊕_cancel {a} {b} c h = omega (arith, over_add a b c, over_add b a c)

pub ⊕_mono_lt : {a b : Length} (c : Length) → a ⊏ b → a ⊕ c ⊏ b ⊕ c
⊕_mono_lt {a} {b} c h = omega (arith, over_add a b c, over_add b a c)

pub ⊕_cancel_lt : {a b : Length} (c : Length) → a ⊕ c ⊏ b ⊕ c → a ⊏ b
⊕_cancel_lt {a} {b} c h = omega (arith, over_add a b c, over_add b a c)

sq_pos : (x : ℕ) → 0 < x → 0 < x * x
sq_pos x h = mul-pos h h

-- a step makes longer
pub ⊕_longer : (a w : Length) → 0 < steps w → a ⊏ a ⊕ w
unfolding over
⊕_longer a w h = by_dec (dec_le w.straight 0)
  where
    fall : (x y : ℕ) → x - (x + y) ≡ 0
    fall x y = omega arith

    rise : (x y : ℕ) → x + y - x ≡ y
    rise x y = omega arith

    goal : 0 < w.straight * w.straight + 2 * (w.diagonal * w.diagonal) → a ⊏ a ⊕ w
    goal g = record { lt = simp (fall, rise) g }

    by_dec : Dec (w.straight ≤ 0) → a ⊏ a ⊕ w
    by_dec (yes g) = goal (omega (arith, sq_pos w.diagonal (omega arith)))
    by_dec (no g) = goal (omega (arith, sq_pos w.straight (omega arith)))

pub zero_least : (a : Length) → zero_length ⊑ a
unfolding over
zero_least a = record { le = simp zero-sub (omega arith) }

-- steps counted against length: 1 ≤ √2 ≤ 2
pub steps_bound : {a b : Length} → a ⊑ b → steps a ≤ b.straight + 2 * b.diagonal
steps_bound {a} {b} h =
    let (u, v) = over_split a b h in
    omega (arith, sq_le (a.straight - b.straight) (2 * (b.diagonal - a.diagonal)) (omega arith), sq_le (a.diagonal - b.diagonal) (b.straight - a.straight) (omega arith))

pub shorter_yes : (a b : Length) → T (shorter a b) → a ⊏ b
shorter_yes a b t = record { lt = ltb→lt (over a b) (over b a) t }

pub shorter_no : (a b : Length) → T (not (shorter a b)) → b ⊑ a
shorter_no a b t = record { le = nltb→le (over a b) (over b a) t }

pub both_less : (a b : Length) → a.straight ≤ b.straight → a.diagonal ≤ b.diagonal → a ⊑ b
both_less a b h k =
    over_join a b (omega (arith, sq_zero {x = a.straight - b.straight} (omega arith)))
    (omega (arith, sq_zero {x = a.diagonal - b.diagonal} (omega arith)))

-- two ways to see it at once: as many steps and as many diagonals; as much when a diagonal counts two, and as many straights
pub by_steps : (a b : Length) → a.straight + a.diagonal ≤ b.straight + b.diagonal → a.diagonal ≤ b.diagonal → a ⊑ b
by_steps a b h k =
    let p : a.straight - b.straight ≤ b.diagonal - a.diagonal = omega arith in
    over_join a b (omega (arith, mul-le-mul p p)) (omega (arith, sq_zero {x = a.diagonal - b.diagonal} (omega arith)))

pub by_doubles : (a b : Length) → a.straight + 2 * a.diagonal ≤ b.straight + 2 * b.diagonal → a.straight ≤ b.straight → a ⊑ b
by_doubles a b h k =
    let p : 2 * (a.diagonal - b.diagonal) ≤ b.straight - a.straight = omega arith in
    over_join a b (omega (arith, sq_zero {x = a.straight - b.straight} (omega arith))) (omega (arith, mul-le-mul p p))
