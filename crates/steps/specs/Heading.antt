-- REFERENCE, "Headings and steps": the table of headings.
use Rattle.std.specs.Prelude.{List, [], ◌∷◌, ℕ, zero, suc, ◌%◌, get_or}
use Rattle.lengths.specs.declared.Length.{Length}
use Rattle.steps.specs.declared.heading.Change.{Change}

-- the code's table: each change plus one, so that −1, 0, +1 are 0, 1, 2. That it is the signed table is `table_is` of
-- proofs/Headings
unfoldable pub changes : List Change
changes =
    record { column = 1; row = 0 }
    ∷ record { column = 2; row = 0 }
    ∷ record { column = 2; row = 1 }
    ∷ record { column = 2; row = 2 }
    ∷ record { column = 1; row = 2 }
    ∷ record { column = 0; row = 2 }
    ∷ record { column = 0; row = 1 }
    ∷ record { column = 0; row = 0 }
    ∷ []

unfoldable pub change_of : ℕ → Change
change_of h = get_or changes h (record { column = 0; row = 0 })

-- an even heading is a straight step, an odd one a diagonal step
abbrev pub by_parity : ℕ → Length
by_parity zero = record { straight = 1; diagonal = 0 }
by_parity (suc n) = record { straight = 0; diagonal = 1 }

abbrev pub weight : ℕ → Length
weight h = by_parity (h % 2)
