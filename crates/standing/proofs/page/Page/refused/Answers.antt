-- `refused` meets its contract: both words with their numbers, which are the refusal's number and place, and the line's end are the pieces of the line.
use Rattle.text.specs.Digits.{ascii}
use Rattle.standing.proofs.Pages.{start, go_on}
use Rattle.standing.proofs.page.Page.refused.Goals as goal

pub returns : goal.returns
unfolding ascii
returns c =
    let number = rw (c.from.ensures, c.number.ensures) at c.count.ensures in
    (go_on _ _ (go_on _ _ (start _ _ c.requires) number) (rw c.place.ensures at c.count-2.ensures)).finish c.word.ensures
