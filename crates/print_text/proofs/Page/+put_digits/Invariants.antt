-- `print_text::Page::put_digits` ends: the tens of a number are fewer than the number.
use Rattle.print_text.proofs.Page.+put_digits.Given as goal

abbrev pub decreases-put_digits : goal.decreases-put_digits
decreases-put_digits l = l.n
