-- A list of headings has one list of legs, and their bytes are two for each.
use mathlib.Core.Path.{◌≡◌, refl, ap, ap₂, sym, subst, ◌∙◌}
use mathlib.Core.Logic.{◌≢◌}
use mathlib.Core.List.{List, [], ◌∷◌}
use Prim.Native.Nat.{ℕ, zero, suc, ◌*◌, ◌<◌}
use native.Mathlib.Omega.{arith}
use native.Mathlib.Decide.{ℕ_discrete}
use lib.ListN.{length}
use Rattle.route_walker.specs.Legs.{Leg, Legs, Proper, OtherFirst, again, bytes, join}

pub length_bytes : (ls : List Leg) → length (bytes ls) ≡ 2 * length ls
length_bytes [] = refl
length_bytes (a ∷ ls) = let e = length_bytes ls in omega arith

-- hs does not begin with h
abbrev pub Other : ℕ → List ℕ → Type 0
Other h [] = Unit {0}
Other h (k ∷ hs) = h ≢ k

again_inj : (h n m : ℕ) (r s : List ℕ) → Other h r → Other h s → again n h r ≡ again m h s → (n ≡ m) × (r ≡ s)
again_inj h zero zero r s a b e = (refl, e)
again_inj h zero (suc m) [] s a b e = absurd (let z : ◌≡◌ {A = ℕ} 0 1 = cc in omega arith)
again_inj h zero (suc m) (k ∷ r) s a b e = absurd (a (cc))
again_inj h (suc n) zero r [] a b e = absurd (let z : ◌≡◌ {A = ℕ} 0 1 = cc in omega arith)
again_inj h (suc n) zero r (k ∷ s) a b e = absurd (b (cc))
again_inj h (suc n) (suc m) r s a b e = let (p, q) = again_inj h n m r s a b (cc) in (ap suc p, q)

-- proper legs that begin with another heading: so do their headings; and the other way round
other_again : (h k n : ℕ) (hs : List ℕ) → 0 < n → h ≢ k → Other h (again n k hs)
other_again h k zero hs p e = absurd (omega arith)
other_again h k (suc n) hs p e = e

again_other : (h k n : ℕ) (hs : List ℕ) → 0 < n → Other h (again n k hs) → h ≢ k
again_other h k zero hs p e = absurd (omega arith)
again_other h k (suc n) hs p e = e

first_other : (h : ℕ) (ls : List Leg) → Proper ls → OtherFirst h ls → Other h (join ls)
first_other h [] p t = tt
first_other h (a ∷ ls) p t = other_again h a.heading a.count (join ls) p.0 t

other_first : (h : ℕ) (ls : List Leg) → Proper ls → Other h (join ls) → OtherFirst h ls
other_first h [] p t = tt
other_first h (a ∷ ls) p t = again_other h a.heading a.count (join ls) p.0 t

-- one leg more
pub legs_more : (h n : ℕ) (hs : List ℕ) (ls : List Leg) → 0 < n → Other h hs → Legs hs ls → Legs (again n h hs) (record { heading = h; count = n } ∷ ls)
legs_more h n hs ls p o l = record {
  joined = ap (again n h) l.joined;
  proper = (p, (other_first h ls l.proper (subst (Other h) (sym l.joined) o), l.proper));
}

same_first : (h k n m : ℕ) (r s : List ℕ) → 0 < n → 0 < m → again n h r ≡ again m k s → h ≡ k
same_first h k zero m r s p q e = absurd (omega arith)
same_first h k (suc n) zero r s p q e = absurd (omega arith)
same_first h k (suc n) (suc m) r s p q e = cc

not_nil : (h n : ℕ) (r : List ℕ) → 0 < n → again n h r ≡ [] → ⊥
not_nil h zero r p e = omega arith
not_nil h (suc n) r p e = let z : ◌≡◌ {A = ℕ} 0 1 = cc in omega arith

-- proper legs are told by their headings
joined_once : (ls ks : List Leg) → Proper ls → Proper ks → join ls ≡ join ks → ls ≡ ks
joined_once [] [] p q e = refl
joined_once [] (b ∷ ks) p q e = absurd (not_nil b.heading b.count (join ks) q.0 (sym e))
joined_once (a ∷ ls) [] p q e = absurd (not_nil a.heading a.count (join ls) p.0 e)
joined_once (a ∷ ls) (b ∷ ks) p q e =
    let f : a.heading ≡ b.heading = same_first a.heading b.heading a.count b.count (join ls) (join ks) p.0 q.0 e in
    let (n, r) =
    again_inj a.heading a.count b.count (join ls) (join ks)
    (first_other a.heading ls p.1.1 p.1.0)
    (subst (λ (h : ℕ). Other h (join ks)) (sym f) (first_other b.heading ks q.1.1 q.1.0))
    (e ∙ ap (λ (h : ℕ). again b.count h (join ks)) (sym f)) in
    ap₂ ◌∷◌ (ap₂ (λ (h n : ℕ). record { heading = h; count = n }) f n) (joined_once ls ks p.1.1 q.1.1 r)

-- a list has one list of legs
pub legs_unique : {hs : List ℕ} {ls ks : List Leg} → Legs hs ls → Legs hs ks → ls ≡ ks
legs_unique {ls = ls} {ks} a b = joined_once ls ks a.proper b.proper (a.joined ∙ sym b.joined)

pub no_legs : Legs [] []
no_legs = record { joined = refl; proper = tt }

-- and has one
pub legs_of : (hs : List ℕ) → (ls : List Leg) × Legs hs ls
legs_of [] = ([], no_legs)
legs_of (h ∷ hs) = let (ls, l) = legs_of hs in push ls l
  where
    push : (ls : List Leg) → Legs hs ls → (ks : List Leg) × Legs (h ∷ hs) ks
    push [] l = (record { heading = h; count = 1 } ∷ [], record { joined = ap (λ (r : List ℕ). h ∷ r) l.joined; proper = (omega arith, (tt, tt)) })
    push (a ∷ ls) l = by (ℕ_discrete h a.heading)
      where
        by : Dec (h ≡ a.heading) → (ks : List Leg) × Legs (h ∷ hs) ks
        by (yes e) = (
          record { heading = a.heading; count = suc a.count } ∷ ls,
          record { joined = ap₂ ◌∷◌ (sym e) l.joined; proper = (omega arith, l.proper.1) },
        )
        by (no e) = (
          record { heading = h; count = 1 } ∷ (a ∷ ls),
          record { joined = ap (λ (r : List ℕ). h ∷ r) l.joined; proper = (omega arith, (e, l.proper)) },
        )
