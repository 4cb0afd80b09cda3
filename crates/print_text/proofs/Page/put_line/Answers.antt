-- `print_text::Page::put_line` meets its contract: the numbers, then the newline.
use Rattle.print_text.proofs.Pages.{wrote_then}
use Rattle.print_text.proofs.Page.put_line.Goals as goal

pub returns-clause-wrote : goal.returns-clause-wrote
returns-clause-wrote c = wrote_then c.put_numbers.ensures.wrote c.put_newline.ensures
