-- The one table of headings: it is the signed one of REFERENCE with one added to each change. What holds of the changes of all eight
-- headings is computed over the whole table once: how large they are (`changes_of`), that the opposite heading undoes
-- them, and that a diagonal heading has those of the two straight ones beside it (`corner_of`).
use mathlib.Core.Path.{◌≡◌, refl, sym, subst}
use mathlib.Core.Logic.{◌≢◌, ◌⊎◌, inl, inr}
use mathlib.Core.Bool.{Bool, true, false}
use mathlib.Core.List.{List, [], ◌∷◌, map}
use Prim.Native.Nat.{ℕ, ◌+◌, ◌-◌, ◌%◌, ◌≤◌, ◌<◌}
use native.Mathlib.Omega.{arith}
use native.Mathlib.Decide.{ℕ_discrete}
use borrow.Author.Tests.{leb-true, eqb-true}
use lib.Dec.{leb, eqb}
use lib.IntN.{ℤ, pos, negsuc, ◌+ℤ◌}
use Rattle.steps.specs.declared.heading.Change.{Change}
use Rattle.answers.specs.Bools.{both, pick}
use Rattle.steps.specs.Heading.{changes, change_of}
use Rattle.floor.proofs.Entries.{every, entry}
use Rattle.answers.proofs.Bools.{both_true}

-- REFERENCE, "Headings and steps": column and row change of N, NE, E, SE, S, SW, W, NW
pub record Signed : Type 0 where
  pub column : ℤ
  pub row : ℤ

abbrev pub headings : List Signed
headings =
    record { column = pos 0; row = negsuc 0 }
    ∷ record { column = pos 1; row = negsuc 0 }
    ∷ record { column = pos 1; row = pos 0 }
    ∷ record { column = pos 1; row = pos 1 }
    ∷ record { column = pos 0; row = pos 1 }
    ∷ record { column = negsuc 0; row = pos 1 }
    ∷ record { column = negsuc 0; row = pos 0 }
    ∷ record { column = negsuc 0; row = negsuc 0 }
    ∷ []

-- one added to each change
abbrev pub one_added : Signed → Signed
one_added s = record { column = s.column +ℤ pos 1; row = s.row +ℤ pos 1 }

-- an entry of the code's table, as signed numbers
abbrev pub as_signed : Change → Signed
as_signed d = record { column = pos d.column; row = pos d.row }

-- the code's table is the signed one with one added to each change
pub table_is : map as_signed changes ≡ map one_added headings
unfolding changes
table_is = refl

-- the heading that leads back: four further
abbrev pub opposite : ℕ → ℕ
opposite h = (h + 4) % 8

-- how far a change plus one is from none
abbrev pub away : ℕ → ℕ
away k = (k - 1) + (1 - k)

-- what the changes of a heading are: each is at most one, a straight heading has one and a diagonal one two, and the
-- opposite heading undoes them
pub record Changes (h : ℕ) : Type 0 where
  pub narrow : (change_of h).column ≤ 2
  pub flat : (change_of h).row ≤ 2
  pub many : away (change_of h).column + away (change_of h).row ≡ 1 + h % 2
  pub columns : (change_of h).column + (change_of (opposite h)).column ≡ 2
  pub rows : (change_of h).row + (change_of (opposite h)).row ≡ 2

-- the same as tests, which are computed over the whole table
abbrev few : ℕ → Change → Bool
few h d = both (leb d.column 2) (both (leb d.row 2) (eqb (away d.column + away d.row) (1 + h % 2)))

abbrev undone : ℕ → Change → Bool
undone h d = both (eqb (d.column + (change_of (opposite h)).column) 2) (eqb (d.row + (change_of (opposite h)).row) 2)

-- each at every heading
at_heading : (test : ℕ → Change → Bool) → every test changes ≡ true → (h : ℕ) → h < 8 → test h (change_of h) ≡ true
unfolding change_of changes
at_heading test all = entry test changes (record { column = 0; row = 0 }) all

pub changes_of : (h : ℕ) → h < 8 → Changes h
unfolding change_of changes
changes_of h b =
    let d = change_of h in
    let (narrow, rest) = both_true (leb d.column 2) _ (at_heading few refl h b) in
    let (flat, many) = both_true (leb d.row 2) _ rest in
    let (columns, rows) = both_true (eqb (d.column + (change_of (opposite h)).column) 2) _ (at_heading undone refl h b) in
    record {
      narrow = leb-true _ _ narrow;
      flat = leb-true _ _ flat;
      many = eqb-true _ _ many;
      columns = eqb-true _ _ columns;
      rows = eqb-true _ _ rows;
    }

-- a heading that keeps the column changes the row
pub row_moves : (h : ℕ) → Changes h → (change_of h).column ≡ 1 → (change_of h).row ≢ 0 → (change_of h).row ≡ 2
row_moves h c e n = omega (arith, c.flat, c.many)

-- a change that was read off the table
pub record ReadOf (change : Change) (h : ℕ) : Type 0 where
  pub narrow : change.column ≤ 2
  pub flat : change.row ≤ 2
  pub columns : change.column ≡ (change_of h).column
  pub rows : change.row ≡ (change_of h).row

pub read_of : (change : Change) (h : ℕ) → h < 8 → change ≡ change_of h → ReadOf change h
read_of change h b e =
    let c = changes_of h b in
    subst (λ (z : Change). ReadOf z h) (sym e) (record { narrow = c.narrow; flat = c.flat; columns = refl; rows = refl })

-- first and second are the straight headings before and after the diagonal heading h, or after and before it
abbrev pub Flank : (h first second : ℕ) → Type 0
Flank h first second = ((first ≡ h - 1) × (second ≡ (h + 1) % 8)) ⊎ ((first ≡ (h + 1) % 8) × (second ≡ h - 1))

-- the two straight headings of a diagonal one: first along the row, then along the column
pub record Corner (h : ℕ) : Type 0 where
  pub first : ℕ
  pub second : ℕ
  pub known : (first < 8) × (second < 8)
  pub even : (first % 2 ≡ 0) × (second % 2 ≡ 0)
  pub flank : Flank h first second
  pub along : ((change_of first).row ≡ 1) × ((change_of first).column ≡ (change_of h).column)
  pub down : ((change_of second).row ≡ (change_of h).row) × ((change_of second).column ≡ 1)

-- the same as a test of two headings, and that one order of the two beside a diagonal heading passes it
abbrev sides : (first second : ℕ) → Change → Bool
sides first second d =
    both (both (eqb (change_of first).row 1) (eqb (change_of first).column d.column))
    (both (eqb (change_of second).row d.row) (eqb (change_of second).column 1))

abbrev flanked : ℕ → Change → Bool
flanked h d = pick (eqb (h % 2) 0) true (pick (sides (h - 1) ((h + 1) % 8) d) true (sides ((h + 1) % 8) (h - 1) d))

corner : (h first second : ℕ) → first < 8 → second < 8 → first % 2 ≡ 0 → second % 2 ≡ 0 → Flank h first second
    → sides first second (change_of h) ≡ true → Corner h
corner h first second f s e o flank pass =
    let (along, down) = both_true (both (eqb (change_of first).row 1) (eqb (change_of first).column (change_of h).column)) _ pass in
    let (level, same) = both_true (eqb (change_of first).row 1) _ along in
    let (also, upright) = both_true (eqb (change_of second).row (change_of h).row) _ down in
    record {
      first = first;
      second = second;
      known = (f, s);
      even = (e, o);
      flank = flank;
      along = (eqb-true _ _ level, eqb-true _ _ same);
      down = (eqb-true _ _ also, eqb-true _ _ upright);
    }

pub corner_of : (h : ℕ) → h < 8 → h % 2 ≡ 1 → Corner h
unfolding change_of changes
corner_of h b odd = by (sides (h - 1) ((h + 1) % 8) (change_of h)) refl (rw odd at (at_heading flanked refl h b))
  where
    by : (t : Bool) → sides (h - 1) ((h + 1) % 8) (change_of h) ≡ t → pick t true (sides ((h + 1) % 8) (h - 1) (change_of h)) ≡ true → Corner h
    by true p q = corner h (h - 1) ((h + 1) % 8) (omega arith) (omega arith) (omega arith) (omega arith) (inl (refl, refl)) p
    by false p q = corner h ((h + 1) % 8) (h - 1) (omega arith) (omega arith) (omega arith) (omega arith) (inr (refl, refl)) q

-- a straight heading keeps the row or the column, and a diagonal one has its two straight ones
pub data Slope (h : ℕ) : Type 0 where
  level : h % 2 ≡ 0 → (change_of h).row ≡ 1 → Slope h
  upright : h % 2 ≡ 0 → (change_of h).column ≡ 1 → Slope h
  slanted : h % 2 ≡ 1 → Corner h → Slope h

pub slope : (h : ℕ) → h < 8 → Slope h
slope h b = by (ℕ_discrete (h % 2) 0) (ℕ_discrete (change_of h).row 1)
  where
    by : Dec (h % 2 ≡ 0) → Dec ((change_of h).row ≡ 1) → Slope h
    by (yes e) (yes r) = level e r
    by (yes e) (no r) = upright e (omega (arith, changes_of h b))
    by (no e) r = let odd : h % 2 ≡ 1 = omega arith in slanted odd (corner_of h b odd)
