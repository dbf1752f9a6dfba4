-- `met` meets its contract: both words with their numbers, the word behind these and the frames are the pieces of the lines.
use Rattle.text.specs.Digits.{ascii}
use Rattle.standing.proofs.Pages.{start, go_on}
use Rattle.standing.proofs.page.Page.met.Goals as goal
use Rattle.standing.proofs.page.Page.met.Goals.{After-word}

pub frames-requires : goal.frames-requires
unfolding ascii
frames-requires c =
    (c.requires.0, (go_on _ _ (go_on _ _ (go_on _ _ (start _ _ c.requires.1) c.count.ensures) c.count-2.ensures) c.word.ensures).room)

pub returns : goal.returns
unfolding ascii
returns c =
    (go_on _ _ (go_on _ _ (go_on _ _ (start _ _ c.requires.1) c.count.ensures) c.count-2.ensures) c.word.ensures).finish c.frames.ensures
