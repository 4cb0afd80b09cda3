-- `print_line::put_floor` meets its contract: the word with a blank after it, then the numbers, parted by blanks, and the newline.
use native.Mathlib.Omega.{arith}
use Rattle.print_text.specs.Text.{fields_after}
use Rattle.print_text.proofs.Pages.{wrote_then}
use Rattle.print_line.proofs.put_floor.Goals as goal

pub returns : goal.returns
unfolding fields_after
returns c = record { wrote = wrote_then c.put_word.ensures c.put_line.ensures.wrote; fits = omega arith }
