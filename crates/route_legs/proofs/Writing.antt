-- Writing the legs ahead of a walker from the front of the leg buffer.
use mathlib.Core.Path.{◌≡◌, refl, ap, ap₂, sym, ◌∙◌, subst}
use mathlib.Core.List.{List, [], ◌∷◌, ◌++◌, append_assoc, append-nil}
use Prim.Native.Nat.{ℕ, suc, ◌+◌, ◌*◌, ◌≤◌, ◌<◌}
use native.Mathlib.Omega.{arith}
use native.Mathlib.Numerals.{add-one}
use lib.ListN.{get_or, length, set, drop, length-set, length-append}
use lib.Seq.{drop-cons}
use Rattle.std.specs.Prelude.{None}
use Rattle.lengths.specs.declared.Length.{Length}
use Rattle.floor.specs.Floor.{Map}
use Rattle.route_walker.specs.declared.Walker.{Walker}
use Rattle.route_walker.specs.declared.WalkedLeg.{WalkedLeg}
use Rattle.route_walker.specs.Legs.{Leg, bytes}
use Rattle.steps.specs.inner.Ranking.{Ranking}
use Rattle.route_walker.specs.inner.Walkers.{Stands, Leads}
use Rattle.route_legs.specs.inner.Ahead.{Ahead, LegRoom, LegsWritten}
use Rattle.route_legs.proofs.LegsOf.{length_bytes}
use Rattle.route_legs.proofs.LegsAhead.{leg_of, ahead_exists, ahead_leg, ahead_end}

-- of the legs ls the first are written, in i bytes, and v stands after them
pub record PartWritten (m : Map) (t : List ℕ) (o : Ranking) (v : Walker) (i : ℕ) (old new : List ℕ) (ls : List Leg) (total : Length) : Type 0 where
  pub written : List Leg
  pub left : List Leg
  pub whole : ls ≡ written ++ left
  pub ahead : Ahead m t o v left total
  pub place : i ≡ 2 * length written
  pub content : new ≡ bytes written ++ drop i old

-- i bytes of the legs of w are written, and v stands after them
pub record Writing (m : Map) (t : List ℕ) (o : Ranking) (w v : Walker) (i : ℕ) (old new : List ℕ) : Type 0 where
  -- v stands on the floor and knows its next heading
  pub stands : Stands m t o v
  -- the buffer keeps its length
  pub size : length new ≡ length old
  -- its first i bytes are the legs passed, and the others keep their values
  pub part : (ls : List Leg) (total : Length) → Ahead m t o w ls total → PartWritten m t o v i old new ls total

put_two : (xs ys : List ℕ) (a b h n : ℕ) → set (set (xs ++ (a ∷ (b ∷ ys))) (length xs) h) (length xs + 1) n ≡ xs ++ (h ∷ (n ∷ ys))
put_two [] ys a b h n = refl
put_two (x ∷ xs) ys a b h n =
    let e : suc (length xs) + 1 ≡ suc (length xs + 1) = omega arith in
    rw e (ap (λ (r : List ℕ). x ∷ r) (put_two xs ys a b h n))

bytes_append : (ls ks : List Leg) → bytes (ls ++ ks) ≡ bytes ls ++ bytes ks
bytes_append [] ks = refl
bytes_append (a ∷ ls) ks = ap (λ (r : List ℕ). a.heading ∷ (a.count ∷ r)) (bytes_append ls ks)

two_off : (s : List ℕ) (i : ℕ) → i + 2 ≤ length s → drop i s ≡ get_or s i 0 ∷ (get_or s (i + 1) 0 ∷ drop (i + 2) s)
two_off s i h =
    let a : i < length s = omega arith in
    let b : suc i < length s = omega arith in
    let e : i + 2 ≡ suc (suc i) = omega arith in
    drop-cons s i 0 a ∙ ap (λ (r : List ℕ). get_or s i 0 ∷ r) (drop-cons s (suc i) 0 b) ∙ rw (e, add-one i)

module _ (m : Map) (t : List ℕ) (o : Ranking) where
  room_left : (v : Walker) (i : ℕ) (old new : List ℕ) (r : WalkedLeg) → Leads m t o v r → (ls : List Leg) (total : Length)
      → 2 * length ls ≤ length old → PartWritten m t o v i old new ls total → i + 2 ≤ length old
  room_left v i old new r d ls total room p =
      let (ks, e, b) = ahead_leg m t o v r d p.left total p.ahead in
      let n : length p.left ≡ suc (length ks) = ap length e in
      let q : length ls ≡ length p.written + length p.left = ap length p.whole ∙ length-append p.written p.left in
      omega (arith, p.place)

  -- there is room for the next leg
  pub writing_room : (w v : Walker) (i : ℕ) (old new : List ℕ) (r : WalkedLeg) → LegRoom m t o w old → Writing m t o w v i old new → Leads m t o v r
      → i + 2 ≤ length new
  writing_room w v i old new r room g d =
      let (ls, total, a) = ahead_exists m t o w in
      omega (arith, g.size, room_left v i old new r d ls total (room ls total a) (g.part ls total a))

  -- one leg more
  pub writing_more : (w v : Walker) (i : ℕ) (old now new : List ℕ) (r : WalkedLeg) → LegRoom m t o w old → Writing m t o w v i old now → Leads m t o v r
      → new ≡ set (set now i r.heading.number) (i + 1) r.count → Writing m t o w r.after (i + 2) old new
  writing_more w v i old now new r room g d e = record {
    stands = d.going.stands;
    size = ap length e ∙ length-set (set now i r.heading.number) (i + 1) r.count ∙ length-set now i r.heading.number ∙ g.size;
    part = λ ls total a. by ls total (room ls total a) (g.part ls total a);
  }
    where
      by : (ls : List Leg) (total : Length) → 2 * length ls ≤ length old → PartWritten m t o v i old now ls total
          → PartWritten m t o r.after (i + 2) old new ls total
      by ls total fit p =
          let (ks, f, b) = ahead_leg m t o v r d p.left total p.ahead in
          let xs = bytes p.written in
          let n : length xs ≡ i = length_bytes p.written ∙ sym p.place in
          let h = room_left v i old now r d ls total fit p in
          record {
            written = p.written ++ (leg_of r ∷ []);
            left = ks;
            whole = p.whole ∙ ap (λ (z : List Leg). p.written ++ z) f ∙ sym (append_assoc p.written (leg_of r ∷ []) ks);
            ahead = b;
            place = let q = length-append p.written (leg_of r ∷ []) in omega (arith, p.place);
            content =
                e
                ∙ ap (λ (z : List ℕ). set (set z i r.heading.number) (i + 1) r.count) (p.content ∙ ap (λ (z : List ℕ). xs ++ z) (two_off old i h))
                ∙ ap (λ (z : ℕ). set (set (xs ++ (get_or old i 0 ∷ (get_or old (i + 1) 0 ∷ drop (i + 2) old))) z r.heading.number) (z + 1) r.count) (sym n)
                ∙ put_two xs (drop (i + 2) old) (get_or old i 0) (get_or old (i + 1) 0) r.heading.number r.count
                ∙ sym (append_assoc xs (r.heading.number ∷ (r.count ∷ [])) (drop (i + 2) old))
                ∙ ap (λ (z : List ℕ). z ++ drop (i + 2) old) (sym (bytes_append p.written (leg_of r ∷ [])));
          }

  -- the place of the next leg, by how many are written
  pub writing_next : (w v : Walker) (k : ℕ) (old new : List ℕ) → Writing m t o w v (2 * k + 2) old new → Writing m t o w v (2 * (k + 1)) old new
  writing_next w v k old new = let e : 2 * k + 2 ≡ 2 * (k + 1) = omega arith in subst (λ (i : ℕ). Writing m t o w v i old new) e

  -- at the goal all legs are written
  pub writing_end : (w v : Walker) (i : ℕ) (old new : List ℕ) → Writing m t o w v i old new → v.next ≡ None → LegsWritten m t o w old new
  writing_end w v i old new g b ls total a =
      let p = g.part ls total a in
      let (f, u) = ahead_end m t o v g.stands b p.left total p.ahead in
      let e : ls ≡ p.written ++ [] = p.whole ∙ ap (λ (z : List Leg). p.written ++ z) f in
      let n : length ls ≡ length p.written = ap length e ∙ length-append p.written [] ∙ omega arith in
      let c : i ≡ 2 * length ls = omega (arith, p.place) in
      p.content ∙ ap₂ (λ (z : List Leg) (j : ℕ). bytes z ++ drop j old) (sym (append-nil p.written) ∙ sym e) c
