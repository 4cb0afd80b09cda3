-- `print_text::Page::put_word` meets its contract: the word's bytes take the place of as many in the buffer.
use native.Mathlib.Omega.{arith}
use mathlib.Core.Path.{refl}
use Rattle.std.proofs.lemmas.Grind.{common_steps}
use Rattle.std.proofs.lemmas.Slice.{put_mid-paste}
use Rattle.print_text.specs.Put.{put}
use Rattle.print_text.proofs.Pages.{wrote_fitting}
use Rattle.print_text.proofs.Page.put_word.Goals as goal

pub returns : goal.returns
unfolding put
returns c = wrote_fitting _ c.requires (let e = c.copy_from_slice.ensures.after in grind (arith, common_steps, e, put_mid-paste)) refl refl
