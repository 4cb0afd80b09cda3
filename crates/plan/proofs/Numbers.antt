-- Numbers of 2 bytes: what is written is read, and what is read was written.
use mathlib.Core.Path.{◌≡◌, refl, ◌∙◌, ap, ap₂}
use mathlib.Core.List.{List, [], ◌∷◌, ◌++◌}
use Prim.Native.Nat.{ℕ, zero, suc, ◌+◌, ◌*◌, ◌/◌, ◌%◌, ◌<◌, ◌≤◌}
use native.Mathlib.Omega.{arith}
use native.Mathlib.Nat.{add-zero}
use lib.ListN.{length, get_or, take, drop, length-drop}
use lib.Seq.{get_or-drop}
use Rattle.plan.specs.declared.Query.{Query}
use Rattle.plan.specs.Records.{number, number_in, query_content}

-- every byte is below 256
abbrev pub Bytes : List ℕ → Type 0
Bytes bytes = (i : ℕ) → get_or bytes i 0 < 256

-- parts of bytes are bytes
pub bytes_drop : (n : ℕ) (bytes : List ℕ) → Bytes bytes → Bytes (drop n bytes)
bytes_drop n bytes b i = rw get_or-drop (b (n + i))

pub bytes_take : (n : ℕ) (bytes : List ℕ) → Bytes bytes → Bytes (take n bytes)
bytes_take zero bytes b i = omega arith
bytes_take (suc n) [] b i = omega arith
bytes_take (suc n) (x ∷ bytes) b zero = b zero
bytes_take (suc n) (x ∷ bytes) b (suc i) = bytes_take n bytes (λ j. b (suc j)) i

-- the number at an offset
pub number_there : (bytes : List ℕ) (at : ℕ) → get_or bytes at 0 + 256 * get_or bytes (at + 1) 0 ≡ number_in (drop at bytes)
unfolding number_in
number_there bytes at = simp (get_or-drop, add-zero)

-- what is written is read
pub number_read : (n : ℕ) (rest : List ℕ) → number_in (number n ++ rest) ≡ n
unfolding number_in
number_read n rest = omega arith

-- and what is read was written
pub number_written : (rest : List ℕ) → 2 ≤ length rest → get_or rest 0 0 < 256 → rest ≡ number (number_in rest) ++ drop 2 rest
unfolding number_in
number_written [] h b = absurd (omega arith)
number_written (x ∷ []) h b = absurd (omega arith)
number_written (x ∷ y ∷ rest) h b =
    let low : x ≡ (x + 256 * y) % 256 = omega arith in
    let high : y ≡ (x + 256 * y) / 256 = omega arith in
    ap₂ (λ (l h : ℕ). l ∷ h ∷ rest) low high

-- contents of a fixed length are so many numbers
module _ (content : List ℕ) (b : Bytes content) where
  number_first : 2 ≤ length content → (rest : List ℕ) → drop 2 content ≡ rest → content ≡ number (number_in content) ++ rest
  number_first h rest e = number_written content h (b 0) ∙ ap (λ (l : List ℕ). number (number_in content) ++ l) e

nothing : (l : List ℕ) → length l ≡ 0 → l ≡ []
nothing [] h = refl
nothing (x ∷ l) h = absurd (omega arith)

pub one_number : (content : List ℕ) → Bytes content → length content ≡ 2 → content ≡ number (number_in content)
one_number content b h = number_first content b (omega arith) [] (nothing (drop 2 content) (omega (arith, length-drop 2 content)))

pub two_numbers : (content : List ℕ) → Bytes content → length content ≡ 4 → content ≡ number (number_in content) ++ number (number_in (drop 2 content))
two_numbers content b h =
    number_first content b (omega arith) _ (one_number (drop 2 content) (bytes_drop 2 content b) (omega (arith, length-drop 2 content)))

-- the query of a content of 8 bytes
abbrev pub query_in : List ℕ → Query
query_in content =
    record {
      start_col = number_in content;
      start_row = number_in (drop 2 content);
      goal_col = number_in (drop 2 (drop 2 content));
      goal_row = number_in (drop 2 (drop 2 (drop 2 content)));
    }

pub four_numbers : (content : List ℕ) → Bytes content → length content ≡ 8 → content ≡ query_content (query_in content)
four_numbers content b h =
    let l : length (drop 2 content) ≡ 6 = omega (arith, length-drop 2 content) in
    let b' = bytes_drop 2 content b in
    number_first content b (omega arith) _
    (number_first (drop 2 content) b' (omega arith) _
    (two_numbers (drop 2 (drop 2 content)) (bytes_drop 2 (drop 2 content) b') (omega (arith, length-drop 2 (drop 2 content)))))
