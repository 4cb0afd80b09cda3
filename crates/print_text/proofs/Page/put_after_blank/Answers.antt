-- `print_text::Page::put_after_blank` meets its contract: it writes a blank, and then the number.
use Rattle.print_text.proofs.Pages.{wrote_then}
use Rattle.print_text.proofs.Page.put_after_blank.Goals as goal

pub returns : goal.returns
returns c = wrote_then c.put_byte.ensures c.put_digits.ensures
