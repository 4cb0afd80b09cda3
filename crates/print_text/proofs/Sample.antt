-- The output that REFERENCE shows, whole, is three lines byte for byte.
use mathlib.Core.Path.{◌≡◌, refl}
use mathlib.Core.List.{List, [], ◌∷◌, ◌++◌}
use Prim.Native.Nat.{ℕ}
use Rattle.print_text.specs.Text.{decimal, fields_after, line, word_line, floor_word}

-- "floor 5 3 50", "1 0 2 2 241 3 1 1 2 2 3 1" and "2 8", each with its newline
abbrev pub shown : List ℕ
shown =
    102 ∷ 108 ∷ 111 ∷ 111 ∷ 114 ∷ 32 ∷ 53 ∷ 32 ∷ 51 ∷ 32 ∷ 53 ∷ 48 ∷ 10 ∷
    49 ∷ 32 ∷ 48 ∷ 32 ∷ 50 ∷ 32 ∷ 50 ∷ 32 ∷ 50 ∷ 52 ∷ 49 ∷ 32 ∷ 51 ∷ 32 ∷ 49 ∷ 32 ∷ 49 ∷ 32 ∷ 50 ∷ 32 ∷ 50 ∷ 32 ∷ 51 ∷ 32 ∷ 49 ∷ 10 ∷
    50 ∷ 32 ∷ 56 ∷ 10 ∷ []

pub sample : word_line floor_word (5 ∷ 3 ∷ 50 ∷ []) ++ line (1 ∷ 0 ∷ 2 ∷ 2 ∷ 241 ∷ 3 ∷ 1 ∷ 1 ∷ 2 ∷ 2 ∷ 3 ∷ 1 ∷ []) ++ line (2 ∷ 8 ∷ []) ≡ shown
unfolding decimal fields_after
sample = refl
