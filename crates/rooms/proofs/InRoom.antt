-- Between two cells of a rectangle of open cells the room formula is a way's length, so it is the shortest.
use mathlib.Core.Path.{◌≡◌, refl, ap, sym, subst, subst₂, ◌∙◌}
use mathlib.Core.Logic.{◌⊎◌, inl, inr}
use Prim.Native.Nat.{ℕ, zero, suc, ◌+◌, ◌-◌, min, max, ◌≤◌, ◌<◌}
use native.Mathlib.Omega.{arith}
use native.Mathlib.Decide.{dec_le, ℕ_discrete}
use Rattle.lengths.specs.declared.Length.{Length}
use Rattle.lengths.specs.Order.{◌⊕◌, ◌⊑◌}
use Rattle.steps.specs.Heading.{changes, change_of, weight}
use Rattle.steps.specs.Way.{Way, stay, step, Shortest, Only}
use Rattle.steps.specs.Step.{Moved}
use Rattle.steps.proofs.Ways.{way_to}
use Rattle.rooms.proofs.RoomFormula.{straight_step, diagonal_step, distance, room_length, distance_self, formula_zero, formula_up, formula_level, formula_slant}
use Rattle.steps.proofs.Grid.{Floor, graph, cell, cell_column, cell_row}
use Rattle.rooms.proofs.Apart.{apart_least}

-- a heading with these column and row changes, of this weight
pub record Heading (j k : ℕ) (w : Length) : Type 0 where
  pub no : ℕ
  pub heading : no < 8
  pub column : (change_of no).column ≡ j
  pub row : (change_of no).row ≡ k
  pub weighs : weight no ≡ w

abbrev Ends : ℕ → Type 0
Ends k = (k ≡ 0) ⊎ (k ≡ 2)

at : (h j k : ℕ) (w : Length) → h < 8 → (change_of h).column ≡ j → (change_of h).row ≡ k → weight h ≡ w → Heading j k w
at h j k w b p q r = record { no = h; heading = b; column = p; row = q; weighs = r }

slant : (j k : ℕ) → Ends j → Ends k → Heading j k diagonal_step
unfolding change_of changes
slant j k (inl p) (inl q) = at 7 j k diagonal_step (omega arith) (sym p) (sym q) refl
slant j k (inl p) (inr q) = at 5 j k diagonal_step (omega arith) (sym p) (sym q) refl
slant j k (inr p) (inl q) = at 1 j k diagonal_step (omega arith) (sym p) (sym q) refl
slant j k (inr p) (inr q) = at 3 j k diagonal_step (omega arith) (sym p) (sym q) refl

level : (j : ℕ) → Ends j → Heading j 1 straight_step
unfolding change_of changes
level j (inl p) = at 6 j 1 straight_step (omega arith) (sym p) refl refl
level j (inr p) = at 2 j 1 straight_step (omega arith) (sym p) refl refl

upright : (k : ℕ) → Ends k → Heading 1 k straight_step
unfolding change_of changes
upright k (inl q) = at 0 1 k straight_step (omega arith) refl (sym q) refl
upright k (inr q) = at 4 1 k straight_step (omega arith) refl (sym q) refl

-- one nearer
record Closer (a g : ℕ) : Type 0 where
  next : ℕ
  change : ℕ
  ends : Ends change
  moved : Moved change a next
  less : distance a g ≡ suc (distance next g)
  low : min a g ≤ next
  high : next ≤ max a g

at_goal : (a g : ℕ) → a ≡ g → distance a g ≡ 0
unfolding distance
at_goal a g e = omega arith

toward : (a g : ℕ) → (a ≡ g) ⊎ Closer a g
unfolding distance
toward a g = by (ℕ_discrete a g) (dec_le a g)
  where
    by : Dec (a ≡ g) → Dec (a ≤ g) → (a ≡ g) ⊎ Closer a g
    by (yes e) q = inl e
    by (no e) (yes q) = inr (record { next = suc a; change = 2; ends = inr refl; moved = omega arith; less = omega arith; low = omega arith; high = omega arith })
    by (no e) (no q) = inr (record { next = a - 1; change = 0; ends = inl refl; moved = omega arith; less = omega arith; low = omega arith; high = omega arith })

module _ (f : Floor) (left top right bottom : ℕ)
    (free : (c r : ℕ) → left ≤ c → c ≤ right → top ≤ r → r ≤ bottom → f.Open c r) where
  pub record In (c r : ℕ) : Type 0 where
    pub l : left ≤ c
    pub r' : c ≤ right
    pub t : top ≤ r
    pub b : r ≤ bottom

  open_in : {c r : ℕ} → In c r → f.Open c r
  open_in {c} {r} i = free c r i.l i.r' i.t i.b

  -- a step between two cells of the rectangle
  one_step : (c r c' r' j k : ℕ) (w : Length) → In c r → In c' r' → Moved j c c' → Moved k r r' → (h : Heading j k w) → (graph f).Step h.no (cell f c r) (cell f c' r')
  one_step c r c' r' j k w i i' p q h =
      let m : c < f.width = f.column c r (open_in i) in
      let n : c' < f.width = f.column c' r' (open_in i') in
      rw (cell_column f c r m, cell_row f c r m, cell_column f c' r' n, cell_row f c' r' n)
      (record {
        heading = h.heading;
        column = subst (λ (z : ℕ). Moved z c c') (sym h.column) p;
        row = subst (λ (z : ℕ). Moved z r r') (sym h.row) q;
        from = open_in i;
        to = open_in i';
        side = free c r' i.l i.r' i'.t i'.b;
        other = free c' r i'.l i'.r' i.t i.b;
      })

  module _ (gc gr : ℕ) (ig : In gc gr) where
    abbrev To : ℕ → ℕ → Type 0
    To c r = Way (graph f) (cell f c r) (cell f gc gr) (room_length (distance c gc) (distance r gr))

    onward : (c r c' r' j k : ℕ) (w : Length) → In c r → In c' r' → Moved j c c' → Moved k r r' → Heading j k w
        → room_length (distance c' gc) (distance r' gr) ⊕ w ≡ room_length (distance c gc) (distance r gr) → To c' r' → To c r
    onward c r c' r' j k w i i' p q h e v =
        subst (Way (graph f) (cell f c r) (cell f gc gr)) (ap (λ (z : Length). room_length (distance c' gc) (distance r' gr) ⊕ z) h.weighs ∙ e)
        (step (one_step c r c' r' j k w i i' p q h) v)

    near_one : (c r : ℕ) → In c r → (c ≡ gc) ⊎ Closer c gc → (r ≡ gr) ⊎ Closer r gr
        → ((c' r' : ℕ) → In c' r' → distance c' gc + distance r' gr < distance c gc + distance r gr → To c' r') → To c r
    near_one c r i (inl p) (inl q) ih =
        subst₂ (λ (a b : ℕ). To a b) (sym p) (sym q)
        (subst (Way (graph f) (cell f gc gr) (cell f gc gr)) (sym (formula_zero _ _ (distance_self gc) (distance_self gr))) stay)
    near_one c r i (inl p) (inr q) ih =
        let i' : In c q.next = omega arith in
        onward c r c q.next 1 q.change straight_step i i' (omega arith) q.moved (upright q.change q.ends)
        (formula_up _ _ _ (at_goal c gc p) q.less) (ih c q.next i' (omega arith))
    near_one c r i (inr p) (inl q) ih =
        let i' : In p.next r = omega arith in
        onward c r p.next r p.change 1 straight_step i i' p.moved (omega arith) (level p.change p.ends)
        (formula_level _ _ _ (at_goal r gr q) p.less) (ih p.next r i' (omega arith))
    near_one c r i (inr p) (inr q) ih =
        let i' : In p.next q.next = omega arith in
        onward c r p.next q.next p.change q.change diagonal_step i i' p.moved q.moved (slant p.change q.change p.ends q.ends)
        (formula_slant _ _ _ _ p.less q.less) (ih p.next q.next i' (omega arith))

    walk : (k c r : ℕ) → In c r → distance c gc + distance r gr ≤ k → To c r
    walk zero c r i b = near_one c r i (toward c gc) (toward r gr) (λ c' r' i' h. absurd (omega arith))
    walk (suc k) c r i b = near_one c r i (toward c gc) (toward r gr) (λ c' r' i' h. walk k c' r' i' (omega arith))

    pub room_shortest : (c r : ℕ) → In c r → Shortest (graph f) (Only (cell f gc gr)) (cell f c r) (room_length (distance c gc) (distance r gr))
    room_shortest c r i = record { way = (cell f gc gr, refl, walk (distance c gc + distance r gr) c r i (omega arith)); least = λ m v. under m (way_to v) }
      where
        a : c < f.width
        a = f.column c r (open_in i)

        b : gc < f.width
        b = f.column gc gr (open_in ig)

        under : (m : Length) → Way (graph f) (cell f c r) (cell f gc gr) m → room_length (distance c gc) (distance r gr) ⊑ m
        under m w =
            rw (cell_column f c r a, cell_row f c r a, cell_column f gc gr b, cell_row f gc gr b)
            at (apart_least f (cell f c r) (cell f gc gr) m w)
