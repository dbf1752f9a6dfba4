-- `passed_over` meets its contract. The loop's invariant: the bytes so far are passed over as they should be (`Passed`).
use Rattle.finder.specs.Inner.Flags.{Passed}
use Rattle.finder.proofs.flags.passed_over.Given as goal

abbrev pub invariant-loop-byte : goal.invariant-loop-byte
invariant-loop-byte l = Passed l.named l.entry-items l.byte
