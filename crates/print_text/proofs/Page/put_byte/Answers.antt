-- `print_text::Page::put_byte` meets its contract: to store a byte is to write it.
use mathlib.Core.Path.{refl}
use borrow.Author.Rules.{rules}
use Rattle.print_text.proofs.Puts.{put_byte}
use Rattle.print_text.proofs.Pages.{wrote_fitting}
use Rattle.print_text.proofs.Page.put_byte.Goals as goal

pub returns : goal.returns
returns c = wrote_fitting _ c.requires (put_byte _ _ _ (search rules)) refl refl
