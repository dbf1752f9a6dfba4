-- `write_code` meets its contract. The loop's invariant is `Left`: what is left, written where the last instruction ended, makes the whole.
use Rattle.code.specs.Code.{bytes_of_instruction}
use Rattle.emitter.proofs.Writing.{Left}
use Rattle.emitter.proofs.write.write_code.Given as goal

abbrev pub invariant-loop-instruction : goal.invariant-loop-instruction
invariant-loop-instruction l = Left bytes_of_instruction l.code l.initial.out 0 l.instruction-index l.out l.at
