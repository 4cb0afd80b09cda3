-- Writing to a page, and then more: what was written so far, and the line that it becomes.
use mathlib.Core.Path.{◌≡◌, refl, ap, ◌∙◌}
use mathlib.Core.List.{List, [], ◌∷◌, ◌++◌}
use Prim.Native.Nat.{ℕ, ◌+◌, ◌≤◌, ◌<◌}
use native.Mathlib.Omega.{arith}
use native.Mathlib.Numerals.{add-one}
use lib.ListN.{length, take, drop, get_or}
use lib.Seq.{take-suc}
use Rattle.print_text.specs.Text.{decimal, field, fields_after, fields}
use Rattle.print_text.specs.declared.Page.{Page}
use Rattle.print_text.specs.Put.{put}
use Rattle.print_text.specs.inner.Page.{HasRoom, Wrote}
use Rattle.print_text.proofs.Fields.{one_field_more}
use Rattle.print_text.proofs.Puts.{none_put, put_then, length_put}

pub wrote_nothing : {page : Page} → Wrote page [] page
wrote_nothing = record { put = none_put; length_kept = refl; same = refl }

pub wrote_then : {old mid new : Page} {a b : List ℕ} → Wrote old a mid → Wrote mid b new → Wrote old (a ++ b) new
wrote_then first second =
    record {
      put = put_then first.put second.put;
      length_kept = second.length_kept ∙ first.length_kept;
      same = second.same ∙ first.same;
    }

-- what fits is written where the buffer's bytes are those and nothing else has changed
pub wrote_fitting : {old new : Page} (bytes : List ℕ) → HasRoom (length bytes) old → new.out.now ≡ put old.out.now old.at bytes → new.at ≡ old.at + length bytes
    → new.out.ghost_name ≡ old.out.ghost_name → Wrote old bytes new
wrote_fitting {old} bytes room written follows same =
    record { put = record { written = written; follows = follows }; length_kept = ap length written ∙ length_put old.out.now old.at bytes room; same = same }

-- the fields of the first of some numbers, and one more
pub wrote_fields : (numbers : List ℕ) (i : ℕ) {old mid new : Page} → i < length numbers → Wrote old (fields_after (take i numbers)) mid
    → Wrote mid (field (get_or numbers i 0)) new → Wrote old (fields_after (take (i + 1) numbers)) new
wrote_fields numbers i below first second = rw (add-one, take-suc numbers i 0 below, one_field_more) (wrote_then first second)

-- no numbers, and the first number with the fields after it
pub no_numbers : (numbers : List ℕ) {page : Page} → length numbers < 1 → Wrote page (fields numbers) page
no_numbers [] few = wrote_nothing
no_numbers (n ∷ ns) few = absurd (omega arith)

pub wrote_numbers : (numbers : List ℕ) {old mid new : Page} → 1 ≤ length numbers → Wrote old (decimal (get_or numbers 0 0)) mid
    → Wrote mid (fields_after (drop 1 numbers)) new → Wrote old (fields numbers) new
wrote_numbers [] some first rest = absurd (omega arith)
wrote_numbers (n ∷ ns) some first rest = wrote_then first rest
