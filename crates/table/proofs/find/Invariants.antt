-- `find` meets its contract. The loop's invariant: the walk down the chain of the key's bucket is at the next record (`Looking`). The measure is how far it has
-- to go, since a chain goes down.
use Rattle.table.proofs.Chains.{height}
use Rattle.table.proofs.Tables.{Looking}
use Rattle.table.proofs.find.Given as goal

abbrev pub invariant-loop-next : goal.invariant-loop-next
invariant-loop-next l = Looking l.table l.key l.bucket l.next

abbrev pub decreases-loop-next : goal.decreases-loop-next
decreases-loop-next l = height l.next
