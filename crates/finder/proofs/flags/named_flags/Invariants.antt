-- `named_flags` meets its contract. The loop's invariant: the flags of the first instructions are named (`NamedTo`).
use Rattle.finder.proofs.Naming.{NamedTo}
use Rattle.finder.proofs.flags.named_flags.Given as goal

abbrev pub invariant-loop-instruction : goal.invariant-loop-instruction
invariant-loop-instruction l = NamedTo l.code l.instruction-index l.named
