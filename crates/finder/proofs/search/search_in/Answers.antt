-- `search_in` meets its contract: what exploring ends with is a right answer, and a trial that satisfies is shown.
use Rattle.finder.proofs.Answered.{finds_met, finds_none}
use Rattle.finder.proofs.search.search_in.Goals as goal

pub returns-in-Some : goal.returns-in-Some
returns-in-Some c = finds_met _ _ _ _ c.explore.auto.table _ _ (rw c.in-Some.is at c.in_ok-end.ensures) _ _ c.write_witness.ensures

pub returns-in-None : goal.returns-in-None
returns-in-None c = finds_none _ _ _ _ c.explore.auto.table _ (rw c.in-None.is at c.in_ok-end.ensures)
