-- What writing to a page leaves there.
use Rattle.std.specs.Prelude.{◌≡◌, List, ℕ, ◌+◌, ◌≤◌, length}
use Rattle.std.specs.Borrow.{MutBor}
use Rattle.print_text.specs.declared.Page.{Page}
use Rattle.print_text.specs.Put.{Put}

-- so many more bytes can be written
abbrev pub HasRoom : ℕ → Page → Type 0
HasRoom n page = page.at + n ≤ length page.out.now

-- the page is this buffer, written from its front
pub record Begins (out : MutBor (List ℕ)) (page : Page) : Type 0 where
  pub front : page.at ≡ 0
  pub text : page.out.now ≡ out.now
  pub same : page.out.ghost_name ≡ out.ghost_name

-- the bytes were written at the page's place, nothing else has changed in its buffer, and the place is now after them
pub record Wrote (old : Page) (bytes : List ℕ) (new : Page) : Type 0 where
  pub put : Put old.out.now old.at bytes new.out.now new.at
  pub length_kept : length new.out.now ≡ length old.out.now
  pub same : new.out.ghost_name ≡ old.out.ghost_name
