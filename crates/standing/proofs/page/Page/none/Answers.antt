-- `none` meets its contract: the word with its number and the word behind it are the pieces of the line.
use Rattle.text.specs.Digits.{ascii}
use Rattle.standing.proofs.Pages.{start, go_on}
use Rattle.standing.proofs.page.Page.none.Goals as goal

pub returns : goal.returns
unfolding ascii
returns c = (go_on _ _ (start _ _ c.requires) c.count.ensures).finish c.word.ensures
