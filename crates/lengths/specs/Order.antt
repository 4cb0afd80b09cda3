-- REFERENCE, "Lengths": the order of lengths. A pair of counts weighs straight + diagonal × √2.
use Rattle.std.specs.Prelude.{Bool, ℕ, ◌+◌, ◌-◌, ◌*◌, ◌≤◌, ltb}
use Rattle.lengths.specs.declared.Length.{Length}

abbrev pub zero_length : Length
zero_length = record { straight = 0; diagonal = 0 }

-- one length after the other
abbrev pub ◌⊕◌ : Length → Length → Length
◌⊕◌ a b = record { straight = a.straight + b.straight; diagonal = a.diagonal + b.diagonal }

-- how many steps a length counts
abbrev pub steps : Length → ℕ
steps a = a.straight + a.diagonal

-- what a has over b: p² + 2q², where p and q are what its parts have more than b's, and 0 where they have not more
unfoldable pub over : Length → Length → ℕ
over a b = (a.straight - b.straight) * (a.straight - b.straight) + 2 * ((a.diagonal - b.diagonal) * (a.diagonal - b.diagonal))

-- a is not longer than b. That this is the sign of p + q√2 is proved in proofs/Rule
pub record ◌⊑◌ (a b : Length) : Type 0 where
  pub le : over a b ≤ over b a

infixl 60 ◌⊕◌
infix 50 ◌⊑◌
-- shorter, as a test
abbrev pub shorter : Length → Length → Bool
shorter a b = ltb (over a b) (over b a)
