-- `delays_of` meets its contract. The loop's invariant: the first i delay bits are read (`DelaysOf`).
use Rattle.table.specs.Inner.Records.{DelaysOf}
use Rattle.table.proofs.record.delays_of.Given as goal

abbrev pub invariant-loop-i : goal.invariant-loop-i
invariant-loop-i l = DelaysOf l.bytes l.delay-items l.i
