-- What the tests of a floor, a table and a place show where they pass.
use mathlib.Core.Path.{◌≡◌, refl}
use mathlib.Core.Bool.{true, false}
use Prim.Native.Nat.{ℕ, ◌*◌}
use native.Mathlib.Omega.{arith}
use borrow.Author.Tests.{ltb-false, eqb-true, not-false}
use lib.Dec.{ltb}
use lib.ListN.{length}
use Rattle.std.specs.Prelude.{Ok}
use Rattle.answers.specs.declared.Refusal.{Refusal}
use Rattle.answers.specs.declared.Refusal.TheVariants.{SidesOutside, MapLength, TableLength}
use Rattle.answers.specs.Bools.{either}
use Rattle.answers.specs.Refusing.{refuse}
use Rattle.answers.proofs.Bools.{either_false}
use Rattle.answers.proofs.Refusals.{all_passed, refuse_passed}
use Rattle.floor.specs.Floor.{Map, Spot, bytes_per_row, open?, cells, largest_side}
use Rattle.floor.specs.Refusals.{sides_outside, wrong_length, wrong_table, closed}
use Rattle.floor.specs.Tests.{floor_tests, floor_tested}
use Rattle.floor.specs.inner.Ready.{Low, Sided, SoundFloor, Fitting, Standing}
use Rattle.floor.proofs.Reading.{open_on}

pub sides_sided : (limit width height : ℕ) → sides_outside limit width height ≡ false → Sided limit width height
unfolding sides_outside
sides_sided limit width height e =
    let p = either_false (either (ltb width 1) (ltb limit width)) _ e in
    let w = either_false (ltb width 1) (ltb limit width) p.0 in
    let h = either_false (ltb height 1) (ltb limit height) p.1 in
    record {
      some_wide = ltb-false width 1 w.0;
      wide = ltb-false limit width w.1;
      some_high = ltb-false height 1 h.0;
      high = ltb-false limit height h.1;
    }

module _ (limit : ℕ) (low : Low limit) where
  -- sides within a lower limit
  pub lower_sided : (width height : ℕ) → sides_outside limit width height ≡ false → Sided largest_side width height
  unfolding Low
  lower_sided width height e =
      let s = sides_sided limit width height e in
      record { some_wide = s.some_wide; wide = omega arith; some_high = s.some_high; high = omega arith }

  -- 1 and 2 do not hold
  pub length_sound : (m : Map) → sides_outside limit m.width m.height ≡ false → wrong_length m ≡ false → SoundFloor m
  unfolding wrong_length
  length_sound m sides size =
      let s = lower_sided m.width m.height sides in
      record {
        some_wide = s.some_wide;
        wide = s.wide;
        some_high = s.some_high;
        high = s.high;
        size = eqb-true (length m.bytes) (m.height * bytes_per_row m.width) (not-false _ size);
      }

  -- no test of the floor refused
  pub sound : (m : Map) → floor_tested limit m ≡ Ok tt → SoundFloor m
  unfolding floor_tested
  sound m e =
      let all = all_passed (floor_tests limit m) e in
      length_sound m (refuse_passed SidesOutside _ (search)) (refuse_passed MapLength _ (search))

-- 4 passed too: the table has an entry for each cell
pub fits : (limit : ℕ) → Low limit → (m : Map) (entries : ℕ) → floor_tested limit m ≡ Ok tt → refuse TableLength (wrong_table m.width m.height entries) ≡ Ok tt
    → Fitting m entries
unfolding wrong_table
fits limit low m entries e f = record { sound = sound limit low m e; size = eqb-true entries (cells m) (not-false _ (refuse_passed TableLength _ f)) }

-- 7 or 8 passed
pub stands : (f : Refusal) (m : Map) (s : Spot) → refuse f (closed m s) ≡ Ok tt → Standing m s
stands f m s e =
    let o : open? m s.column s.row ≡ true = not-false _ (refuse_passed f _ e) in
    let (column, row) = open_on m s.column s.row o in
    record { column_on = column; row_on = row; free = rw o tt }

-- a limit that is written out is not above the largest side, by computing
pub low : (limit : ℕ) → ltb largest_side limit ≡ false → Low limit
unfolding Low
low limit e = ltb-false largest_side limit e

pub largest_low : Low largest_side
largest_low = low largest_side refl
