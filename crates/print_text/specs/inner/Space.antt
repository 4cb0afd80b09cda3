-- The room that a page's methods ask for.
use Rattle.std.specs.Prelude.{ℕ, ◌-◌, ◌*◌}

-- room for any number of 64 bits: it has at most 20 digits
abbrev pub number_room : ℕ
number_room = 20

-- room for a blank and any number of 64 bits
abbrev pub field_room : ℕ
field_room = 21

-- room for a blank and a number of one byte
abbrev pub byte_room : ℕ
byte_room = 4

-- room for so many numbers of 64 bits, and a blank between two
abbrev pub numbers_room : ℕ → ℕ
numbers_room n = field_room * n - 1
