-- No second place and no second buffer meet the contract of a public method that writes.
use mathlib.Core.Path.{◌≡◌, sym, ◌∙◌}
use mathlib.Core.List.{List}
use Prim.Native.Nat.{ℕ}
use Rattle.print_text.specs.declared.Page.{Page}
use Rattle.print_text.specs.inner.Page.{Wrote}
use Rattle.print_text.proofs.Page.put_number.Reads as put-number
use Rattle.print_text.proofs.Page.put_field.Reads as put-field
use Rattle.print_text.proofs.Page.put_fields.Reads as put-fields
use Rattle.print_text.proofs.Page.put_numbers.Reads as put-numbers
use Rattle.print_text.proofs.Page.put_line.Reads as put-line
use Rattle.print_text.proofs.Page.put_word.Reads as put-word
use Rattle.print_text.proofs.Page.put_newline.Reads as put-newline

abbrev Same : Page → Page → Type 0
Same new new' = (new.at ≡ new'.at) × (new.out.now ≡ new'.out.now)

wrote_only : {old new new' : Page} {bytes : List ℕ} → Wrote old bytes new → Wrote old bytes new' → Same new new'
wrote_only p q = (p.put.follows ∙ sym q.put.follows, p.put.written ∙ sym q.put.written)

pub put_number_only : (κs : _) (a : _) (r r' : _) (x x' : _) → put-number.Post κs a r x → put-number.Post κs a r' x' → Same x.0.now x'.0.now
put_number_only κs a r r' x x' p q = wrote_only p.0 q.0

pub put_field_only : (κs : _) (a : _) (r r' : _) (x x' : _) → put-field.Post κs a r x → put-field.Post κs a r' x' → Same x.0.now x'.0.now
put_field_only κs a r r' x x' p q = wrote_only p.0 q.0

pub put_fields_only : (κs : _) (a : _) (r r' : _) (x x' : _) → put-fields.Post κs a r x → put-fields.Post κs a r' x' → Same x.0.now x'.0.now
put_fields_only κs a r r' x x' p q = wrote_only p.0 q.0

pub put_numbers_only : (κs : _) (a : _) (r r' : _) (x x' : _) → put-numbers.Post κs a r x → put-numbers.Post κs a r' x' → Same x.0.now x'.0.now
put_numbers_only κs a r r' x x' p q = wrote_only p.0 q.0

pub put_line_only : (κs : _) (a : _) (r r' : _) (x x' : _) → put-line.Post κs a r x → put-line.Post κs a r' x' → Same x.0.now x'.0.now
put_line_only κs a r r' x x' p q = wrote_only p.0 q.0

pub put_word_only : (κs : _) (a : _) (r r' : _) (x x' : _) → put-word.Post κs a r x → put-word.Post κs a r' x' → Same x.0.now x'.0.now
put_word_only κs a r r' x x' p q = wrote_only p q

pub put_newline_only : (κs : _) (a : _) (r r' : _) (x x' : _) → put-newline.Post κs a r x → put-newline.Post κs a r' x' → Same x.0.now x'.0.now
put_newline_only κs a r r' x x' p q = wrote_only p q
