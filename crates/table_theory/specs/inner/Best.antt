-- What the neighbours make a cell, computed: the least of the headings' offers. That it is `Made` is proved in
-- proofs/Best.
use Rattle.std.specs.Prelude.{Bool, ℕ, zero, suc, Option, Some, None}
use Rattle.answers.specs.Bools.{pick}
use Rattle.lengths.specs.declared.Length.{Length}
use Rattle.lengths.specs.Order.{zero_length, ◌⊕◌, shorter}
use Rattle.steps.specs.Heading.{weight}
use Rattle.table_theory.specs.Entry.{Entry, mark, long}

-- an entry plus a step
abbrev pub further : Entry → Length → Entry
further mark w = mark
further (long m) w = long (m ⊕ w)

-- what a heading offers
abbrev pub offer : (ℕ → Entry) → Length → Option ℕ → Entry
offer T w None = mark
offer T w (Some y) = further (T y) w

abbrev pub lesser : Entry → Entry → Entry
lesser mark e = e
lesser (long a) mark = long a
lesser (long a) (long b) = pick (shorter b a) (long b) (long a)

-- the least offer of the headings below k
abbrev pub best : (ℕ → ℕ → Option ℕ) → (ℕ → Entry) → ℕ → ℕ → Entry
best lead T x zero = mark
best lead T x (suc k) = lesser (best lead T x k) (offer T (weight k) (lead k x))

-- what the neighbours make a cell, by its k headings
abbrev pub made : (ℕ → ℕ → Option ℕ) → (ℕ → Bool) → (ℕ → Entry) → ℕ → ℕ → Entry
made lead goal T k x = pick (goal x) (long zero_length) (best lead T x k)
