-- `write_witness` meets its contract: the loop's invariant is `Walks`, and the measure is the number of the record, as links lead to records before.
use Rattle.finder.proofs.Witness.{Walks}
use Rattle.finder.proofs.search.write_witness.Given as goal

abbrev pub invariant-loop-from : goal.invariant-loop-from
invariant-loop-from l = Walks l.table l.fn.trial l.initial.witness l.witness l.length l.at

abbrev pub decreases-loop-from : goal.decreases-loop-from
decreases-loop-from l = l.at
