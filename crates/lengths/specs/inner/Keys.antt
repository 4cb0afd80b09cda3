-- One number for a length, its key: 13860 for each straight and 19601 for each diagonal step. That keys order
-- lengths, and give them back, is proved in proofs/Keys. Nothing that a call promises is stated with these.
use Rattle.std.specs.Prelude.{ℕ, ◌+◌, ◌-◌, ◌*◌, ◌/◌, ◌%◌}
use Rattle.lengths.specs.declared.Length.{Length}

-- the key of a straight and of a diagonal step
abbrev pub straight_key : ℕ
straight_key = 13860

abbrev pub diagonal_key : ℕ
diagonal_key = 19601

-- the key of a length
abbrev pub key : Length → ℕ
key a = straight_key * a.straight + diagonal_key * a.diagonal

-- the diagonal part of a key: 19601 is its own inverse modulo 13860
abbrev pub diagonal_of : ℕ → ℕ
diagonal_of k = k % straight_key * diagonal_key % straight_key

-- the straight part of a key
abbrev pub straight_of : ℕ → ℕ
straight_of k = (k - diagonal_key * diagonal_of k) / straight_key

-- the length of a key
abbrev pub pair : ℕ → Length
pair k = record { straight = straight_of k; diagonal = diagonal_of k }
