-- Text on a page, piece by piece: what is left of it, while there is room for all. Pieces that are written one behind the other are as if written at once.
use mathlib.Core.Path.{◌≡◌, refl, ◌∙◌}
use mathlib.Core.List.{List, ◌++◌}
use Prim.Native.Nat.{ℕ}
use Rattle.ground.proofs.Written.{room_more}
use Rattle.standing.specs.declared.page.Page.{Page}
use Rattle.standing.specs.Inner.Pages.{PageRoom, Writes}
use Rattle.text.proofs.Writing.{puts_more}

-- What is left of a text: there is room for it, and once it is written all of the text is
pub record LeftOn (page₀ : Page) (all : List ℕ) (page : Page) (rest : List ℕ) : Type 0 where
  pub room : PageRoom page rest
  pub finish : {page' : Page} → Writes page rest page' → Writes page₀ all page'

-- at first all of it, by whatever pieces
pub start_by : {page : Page} {all pieces : List ℕ} → all ≡ pieces → PageRoom page all → LeftOn page all page pieces
start_by own room = record { room = rw own at room; finish = λ w. rw own w }

pub start : (page : Page) (all : List ℕ) → PageRoom page all → LeftOn page all page all
start page all room = start_by refl room

module _ {page₀ page page' : Page} {all : List ℕ} (xs rest : List ℕ) (left : LeftOn page₀ all page (xs ++ rest)) (w : Writes page xs page') where
  pieces : {page'' : Page} → Writes page' rest page'' → Writes page (xs ++ rest) page''
  pieces v = record { same_buffer = v.same_buffer ∙ w.same_buffer; puts = puts_more page.text.now page.at xs rest left.room w.puts v.puts }

  -- what is left behind a piece
  pub go_on : LeftOn page₀ all page' rest
  go_on =
      record { room = rw (w.puts.0, w.puts.1) (room_more page.text.now page.at xs rest left.room); finish = λ v. left.finish (pieces v) }
