-- A way's line, written in three parts.
use mathlib.Core.List.{List, [], ◌∷◌, ◌++◌, append_assoc}
use Prim.Native.Nat.{ℕ}
use Rattle.print_text.specs.declared.Page.{Page}
use Rattle.print_text.specs.Text.{newline, decimal, fields, fields_after, line}
use Rattle.print_text.specs.inner.Page.{Wrote}
use Rattle.print_text.proofs.Fields.{fields_append}
use Rattle.print_text.proofs.Pages.{wrote_then}

pub way_wrote : (number : ℕ) (ns ms : List ℕ) {old mid late new : Page} → Wrote old (fields (number ∷ ns)) mid → Wrote mid (fields_after ms) late
    → Wrote late (newline ∷ []) new → Wrote old (line (number ∷ (ns ++ ms))) new
way_wrote number ns ms a b c = rw (fields_append ns ms, ← append_assoc (decimal number) (fields_after ns) (fields_after ms)) (wrote_then (wrote_then a b) c)
