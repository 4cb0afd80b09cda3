-- REFERENCE, "Plans": where a plan breaks.
use Rattle.std.specs.Prelude.{◌≡◌, List, [], ◌++◌, ℕ, ◌+◌, ◌<◌, length}
use Rattle.plan.specs.Records.{length_in, kind_in, floor_record, map_record}
use Rattle.plan.specs.Sound.{Contents, Sound}

-- the content lengths that a kind takes: one fixed length, or any
abbrev pub Fixed : ℕ → ℕ → Type 0
Fixed n m = m ≡ n

abbrev pub Any : ℕ → Type 0
Any m = Unit {0}

-- the record that should begin the rest is none such: it is cut off where fewer bytes are left than the header's 4 and
-- those of the content that it states, and where none are left it is missing
pub data Wrong (kind : ℕ) (Takes : ℕ → Type 0) (rest : List ℕ) : Type 0 where
  cut_off : length rest < 4 + length_in rest → Wrong kind Takes rest
  wrong_kind : (kind_in rest ≡ kind → ⊥) → Wrong kind Takes rest
  wrong_length : (Takes (length_in rest) → ⊥) → Wrong kind Takes rest

-- the bytes go on after these ones, at this offset, with a rest that breaks
pub record After (before : List ℕ) (Breaks : List ℕ → Type 0) (bytes : List ℕ) (at : ℕ) : Type 0 where
  pub rest : List ℕ
  pub split : bytes ≡ before ++ rest
  pub place : at ≡ length before
  pub breaks : Breaks rest

-- after a sound plan something follows: it would be the 65th query, or it is wrong as a query
pub record Extra (c : Contents) (rest : List ℕ) : Type 0 where
  pub more : 0 < length rest
  pub no_query : length c.queries < 64 → Wrong 4 (Fixed 8) rest

-- where a plan breaks: right records come before it, and what should begin there is wrong; a record that is missing
-- should have begun at the end
pub data Broken (bytes : List ℕ) (at : ℕ) : Type 0 where
  at_floor : After [] (Wrong 1 (Fixed 4)) bytes at → Broken bytes at
  at_map : (width height : ℕ) → After (floor_record width height) (Wrong 2 Any) bytes at → Broken bytes at
  at_size : (width height : ℕ) (map : List ℕ) → After (floor_record width height ++ map_record map) (Wrong 3 (Fixed 2)) bytes at
      → Broken bytes at
  at_query : (before : List ℕ) (c : Contents) → Sound before c → After before (Extra c) bytes at → Broken bytes at
