-- Text on a page: a buffer, and the place behind the text that it has so far.
use Rattle.std.specs.Prelude.{◌≡◌, List, ℕ}
use Rattle.standing.specs.declared.page.Page.{Page}
use Rattle.text.specs.Inner.Writing.{Room, Puts}

-- There is room on a page for bytes behind its text
abbrev pub PageRoom : Page → List ℕ → Type 0
PageRoom page bytes = Room page.text.now page.at bytes

-- Bytes are written on a page behind its text, and its buffer stays the one that was lent
pub record Writes (page : Page) (bytes : List ℕ) (page' : Page) : Type 0 where
  pub same_buffer : page'.text.ghost_name ≡ page.text.ghost_name
  pub puts : Puts page.text.now page.at bytes page'.text.now page'.at
