-- A floor of bytes: where each heading leads, computed, and that it is the floor's steps.
use mathlib.Core.Path.{◌≡◌, refl, ap, ap₂, sym, subst, subst₂, ◌∙◌}
use mathlib.Core.Bool.{Bool, true, false}
use Prim.Native.Nat.{ℕ, ◌+◌, ◌-◌, ◌*◌, ◌%◌, ◌/◌, ◌<◌}
use native.Mathlib.Omega.{arith}
use native.Mathlib.Nat.{div-add-mod'}
use lib.Dec.{T as Holds, ltb, ltb→lt, lt→ltb}
use Rattle.answers.specs.Bools.{pick, both}
use Rattle.std.specs.Prelude.{Some, None}
use Rattle.floor.specs.Floor.{Map, open?}
use Rattle.steps.specs.inner.Leading.{open_past, permitted, lead_of}
use Rattle.steps.specs.Heading.{change_of}
use Rattle.steps.specs.Step.{Step}
use Rattle.answers.proofs.Bools.{both_true}
use Rattle.floor.proofs.Reading.{open_on}
use Rattle.steps.proofs.Grid.{Floor, graph, cell, cell_column, cell_row}

-- a test that holds is true, and the other way round
true_of : (b : Bool) → Holds b → b ≡ true
true_of true t = refl
true_of false t = absurd t

holds_of : {b : Bool} → b ≡ true → Holds b
holds_of e = subst Holds (sym e) tt

both_left : (a b : Bool) → Holds (both a b) → Holds a
both_left a b t = holds_of (both_true a b (true_of (both a b) t)).0

both_right : (a b : Bool) → Holds (both a b) → Holds b
both_right a b t = holds_of (both_true a b (true_of (both a b) t)).1

both_and : (a b : Bool) → Holds a → Holds b → Holds (both a b)
both_and true b s t = t
both_and false b s t = s

pub open_column : (m : Map) (c r : ℕ) → Holds (open? m c r) → c < m.width
open_column m c r t = (open_on m c r (true_of (open? m c r) t)).0

pub open_row : (m : Map) (c r : ℕ) → Holds (open? m c r) → r < m.height
open_row m c r t = (open_on m c r (true_of (open? m c r) t)).1

abbrev pub floor : Map → Floor
floor m = record {
  width = m.width;
  height = m.height;
  Open = λ c r. Holds (open? m c r);
  column = open_column m;
  row = open_row m;
}

module _ (m : Map) where
  -- an open cell, a column and a row further
  pub record Past (c r : ℕ) : Type 0 where
    pub column : 0 < c
    pub row : 0 < r
    pub «open» : Holds (open? m (c - 1) (r - 1))

  pub past : (c r : ℕ) → Holds (open_past m c r) → Past c r
  unfolding open_past
  past c r t =
      let u = both_right (ltb 0 c) (both (ltb 0 r) (open? m (c - 1) (r - 1))) t in
      record {
        column = ltb→lt 0 c (both_left (ltb 0 c) (both (ltb 0 r) (open? m (c - 1) (r - 1))) t);
        row = ltb→lt 0 r (both_left (ltb 0 r) (open? m (c - 1) (r - 1)) u);
        «open» = both_right (ltb 0 r) (open? m (c - 1) (r - 1)) u;
      }

  to_past : (c r c' r' : ℕ) → c ≡ c' + 1 → r ≡ r' + 1 → Holds (open? m c' r') → Holds (open_past m c r)
  unfolding open_past
  to_past c r c' r' p q t =
      let a : c' ≡ c - 1 = omega arith in
      let b : r' ≡ r - 1 = omega arith in
      both_and (ltb 0 c) (both (ltb 0 r) (open? m (c - 1) (r - 1))) (lt→ltb 0 c (omega arith))
      (both_and (ltb 0 r) (open? m (c - 1) (r - 1)) (lt→ltb 0 r (omega arith)) (subst₂ (λ (u v : ℕ). Holds (open? m u v)) a b t))

  pub record Four (j k c r : ℕ) : Type 0 where
    pub from : Past (c + 1) (r + 1)
    pub to : Past (c + j) (r + k)
    pub side : Past (c + 1) (r + k)
    pub other : Past (c + j) (r + 1)

  pub four : (j k c r : ℕ) → Holds (permitted m j k c r) → Four j k c r
  unfolding permitted
  four j k c r t =
      let u = both_right (open_past m (c + 1) (r + 1)) _ t in
      let v = both_right (open_past m (c + j) (r + k)) _ u in
      record {
        from = past (c + 1) (r + 1) (both_left (open_past m (c + 1) (r + 1)) _ t);
        to = past (c + j) (r + k) (both_left (open_past m (c + j) (r + k)) _ u);
        side = past (c + 1) (r + k) (both_left (open_past m (c + 1) (r + k)) _ v);
        other = past (c + j) (r + 1) (both_right (open_past m (c + 1) (r + k)) _ v);
      }

  abbrev at : (c r : ℕ) → ℕ
  at c r = r * m.width + c

  leads : (t : Bool) (y₀ y : ℕ) → pick t (Some y₀) None ≡ Some y → Holds t × (y₀ ≡ y)
  leads true y₀ y p = (tt, cc)
  leads false y₀ y p = absurd (let z : ◌≡◌ {A = ℕ} 0 1 = cc in omega arith)

  drop_one : (c r : ℕ) → Holds (open? m (c + 1 - 1) (r + 1 - 1)) → Holds (open? m c r)
  drop_one c r t =
      let a : c + 1 - 1 ≡ c = omega arith in
      let b : r + 1 - 1 ≡ r = omega arith in
      subst₂ (λ (u v : ℕ). Holds (open? m u v)) a b t

  stepped : (h c r y : ℕ) → h < 8 → Four (change_of h).column (change_of h).row c r → at (c + (change_of h).column - 1) (r + (change_of h).row - 1) ≡ y
      → Step (λ c r. Holds (open? m c r)) h c r (y % m.width) (y / m.width)
  unfolding cell
  stepped h c r y b f e =
      let j = (change_of h).column in
      let k = (change_of h).row in
      let w = open_column m (c + j - 1) (r + k - 1) f.to.«open» in
      let p : y % m.width ≡ c + j - 1 = ap (λ (z : ℕ). z % m.width) (sym e) ∙ cell_column (floor m) (c + j - 1) (r + k - 1) w in
      let q : y / m.width ≡ r + k - 1 = ap (λ (z : ℕ). z / m.width) (sym e) ∙ cell_row (floor m) (c + j - 1) (r + k - 1) w in
      let c₁ : c + 1 - 1 ≡ c = omega arith in
      let r₁ : r + 1 - 1 ≡ r = omega arith in
      subst₂ (λ (u v : ℕ). Step (λ c r. Holds (open? m c r)) h c r u v) (sym p) (sym q)
      (record {
        heading = b;
        column = record { sum = omega (arith, f.to.column) };
        row = record { sum = omega (arith, f.to.row) };
        from = drop_one c r f.from.«open»;
        to = f.to.«open»;
        side = subst (λ (u : ℕ). Holds (open? m u (r + k - 1))) c₁ f.side.«open»;
        other = subst (λ (v : ℕ). Holds (open? m (c + j - 1) v)) r₁ f.other.«open»;
      })

  pub to_step : (h x y : ℕ) → h < 8 → lead_of m h x ≡ Some y → (graph (floor m)).Step h x y
  unfolding lead_of
  to_step h x y b p =
      let (go, e) = leads (permitted m (change_of h).column (change_of h).row (x % m.width) (x / m.width)) _ y p in
      stepped h (x % m.width) (x / m.width) y b (four _ _ _ _ go) e

  taken : (t : Bool) (y₀ y : ℕ) → Holds t → y₀ ≡ y → pick t (Some y₀) None ≡ Some y
  taken true y₀ y t e = ap Some e
  taken false y₀ y t e = absurd t

  pub from_step : (h x y : ℕ) → (graph (floor m)).Step h x y → lead_of m h x ≡ Some y
  unfolding lead_of permitted
  from_step h x y s =
      let c = x % m.width in
      let r = x / m.width in
      let j = (change_of h).column in
      let k = (change_of h).row in
      let c' = y % m.width in
      let r' = y / m.width in
      let p : c + j ≡ c' + 1 = s.column.sum in
      let q : r + k ≡ r' + 1 = s.row.sum in
      let a : c + j - 1 ≡ c' = omega arith in
      let b : r + k - 1 ≡ r' = omega arith in
      taken (permitted m j k c r) (at (c + j - 1) (r + k - 1)) y
      (both_and (open_past m (c + 1) (r + 1)) _ (to_past (c + 1) (r + 1) c r refl refl s.from)
      (both_and (open_past m (c + j) (r + k)) _ (to_past (c + j) (r + k) c' r' p q s.to)
      (both_and (open_past m (c + 1) (r + k)) _ (to_past (c + 1) (r + k) c r' refl q s.side)
      (to_past (c + j) (r + 1) c' r p refl s.other))))
      (ap₂ (λ (u v : ℕ). u * m.width + v) b a ∙ div-add-mod' y m.width)
