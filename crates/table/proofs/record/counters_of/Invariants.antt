-- `counters_of` meets its contract. The loop's invariant: the first i counters are read (`CountersOf`).
use Rattle.table.specs.Inner.Records.{CountersOf}
use Rattle.table.proofs.record.counters_of.Given as goal

abbrev pub invariant-loop-i : goal.invariant-loop-i
invariant-loop-i l = CountersOf l.bytes l.counter-items l.i
