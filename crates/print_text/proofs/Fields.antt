-- Fields after fields, and the room that numbers take.
use mathlib.Core.Path.{◌≡◌, refl, ap, sym, ◌∙◌}
use mathlib.Core.List.{List, [], ◌∷◌, ◌++◌, append-nil, append_assoc}
use Prim.Native.Nat.{ℕ, ◌^◌, ◌≤◌, ◌<◌}
use native.Mathlib.Omega.{arith}
use lib.ListN.{length}
use Rattle.print_text.specs.Text.{decimal, field, fields_after}
use Rattle.print_text.specs.inner.Space.{number_room, byte_room}
use Rattle.print_text.proofs.Digits.{decimal_room}

pub fields_append : (ms ns : List ℕ) → fields_after (ms ++ ns) ≡ fields_after ms ++ fields_after ns
unfolding fields_after
fields_append [] ns = refl
fields_append (m ∷ ms) ns = ap (λ (l : List ℕ). field m ++ l) (fields_append ms ns) ∙ sym (append_assoc (field m) (fields_after ms) (fields_after ns))

pub one_field_more : (ms : List ℕ) (n : ℕ) → fields_after (ms ++ (n ∷ [])) ≡ fields_after ms ++ field n
unfolding fields_after
one_field_more ms n = fields_append ms (n ∷ []) ∙ ap (λ (l : List ℕ). fields_after ms ++ l) (append-nil (field n))

-- a number of 64 bits has at most 20 digits
pub number_fits : (n : ℕ) → n < 2 ^ 64 → length (decimal n) ≤ number_room
number_fits n small = decimal_room 19 n (omega arith)

-- a byte has at most three digits, and a blank before them
pub byte_fits : (n : ℕ) → n < 256 → length (field n) ≤ byte_room
byte_fits n byte = omega (arith, decimal_room 2 n (omega arith))
