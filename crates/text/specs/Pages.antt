-- What is written on a page, which is bytes that are lent.
use Rattle.std.specs.Prelude.{◌≡◌, List, ℕ, ◌+◌, ◌≤◌, length}
use Rattle.text.specs.Writing.{Adds}
use Rattle.text.specs.declared.Page.{Page}

-- there is room for so many bytes more
abbrev pub HasRoom : Page → ℕ → Type 0
HasRoom page n = page.used + n ≤ length page.out.now

-- a text is written on a page: the bytes lent are the same, and the text stands behind those that were written
pub record Puts (before : Page) (text : List ℕ) (after : Page) : Type 0 where
  pub same : after.out.ghost_name ≡ before.out.ghost_name
  pub adds : Adds before.out.now before.used text after.out.now after.used
