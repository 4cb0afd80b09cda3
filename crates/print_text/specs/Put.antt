-- What writing bytes into a buffer at a place leaves there.
use Rattle.std.specs.Prelude.{◌≡◌, List, ◌++◌, ℕ, ◌+◌, length, take, drop}

-- the buffer with these bytes from the place on; all before and after them is as it was
unfoldable pub put : List ℕ → ℕ → List ℕ → List ℕ
put old at bytes = take at old ++ bytes ++ drop (at + length bytes) old

-- the bytes were written at the place, nothing else has changed, and what is handed back is the place after them
pub record Put (old : List ℕ) (at : ℕ) (bytes new : List ℕ) (next : ℕ) : Type 0 where
  pub written : new ≡ put old at bytes
  pub follows : next ≡ at + length bytes
