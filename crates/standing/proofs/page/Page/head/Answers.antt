-- `head` meets its contract: each word with its number, and then the line's end, are the pieces of the lines, and each is written where there is room for what
-- is left.
use Rattle.text.specs.Digits.{ascii}
use Rattle.standing.proofs.Pages.{start, go_on}
use Rattle.standing.proofs.page.Page.head.Goals as goal

pub returns : goal.returns
unfolding ascii
returns c =
    (go_on _ _ (go_on _ _ (go_on _ _ (start _ _ c.requires) c.count.ensures) c.count-2.ensures) c.count-3.ensures).finish c.word.ensures
