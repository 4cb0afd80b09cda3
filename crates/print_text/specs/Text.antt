-- REFERENCE, "What `ways` prints": numbers in decimal, and lines of fields, as bytes.
use Rattle.std.specs.Prelude.{true, false, List, [], ◌∷◌, ◌++◌, ℕ, zero, suc, ◌+◌, ◌/◌, ◌%◌, ltb}

-- the byte that shows a digit: "0" is 48, "9" is 57
abbrev pub digit : ℕ → ℕ
digit d = 48 + d

-- the digits of a number: below 10 it is one digit; any other has the digits of its tens, then its last. So many at most are made
unfoldable pub digits_within : ℕ → ℕ → List ℕ
digits_within zero n = []
digits_within (suc most) n = elim (ltb n 10) [ true ↦ digit n ∷ [] | false ↦ digits_within most (n / 10) ++ (digit (n % 10) ∷ []) ]

-- a number in decimal, without leading zeros: n + 1 digits are always enough
unfoldable pub decimal : ℕ → List ℕ
unfolding digits_within
decimal n = digits_within (suc n) n

-- "Fields are parted by one blank."
abbrev pub blank : ℕ
blank = 32

-- what ends a line
abbrev pub newline : ℕ
newline = 10

-- a field that is not the first of its line: a blank, then the number
abbrev pub field : ℕ → List ℕ
field n = blank ∷ decimal n

-- the fields after the first
unfoldable pub fields_after : List ℕ → List ℕ
fields_after [] = []
fields_after (n ∷ ns) = field n ++ fields_after ns

-- numbers in decimal, parted by one blank
abbrev pub fields : List ℕ → List ℕ
fields [] = []
fields (n ∷ ns) = decimal n ++ fields_after ns

-- a line of numbers: its fields, then a newline
abbrev pub line : List ℕ → List ℕ
line ns = fields ns ++ (newline ∷ [])

-- a line that begins with a word, and goes on with numbers
abbrev pub word_line : List ℕ → List ℕ → List ℕ
word_line word ns = word ++ fields_after ns ++ (newline ∷ [])

-- the word that begins the first line, "floor"
abbrev pub floor_word : List ℕ
floor_word = 102 ∷ 108 ∷ 111 ∷ 111 ∷ 114 ∷ []
