-- `write_numbers` meets its contract. The loop's invariant is `Left`: what is left, written where the last number ended, makes the whole.
use Rattle.reading.specs.Numbers.{number_bytes}
use Rattle.emitter.proofs.Writing.{Left}
use Rattle.emitter.proofs.write.write_numbers.Given as goal

abbrev pub invariant-loop-number : goal.invariant-loop-number
invariant-loop-number l = Left number_bytes l.numbers l.initial.out l.initial.at l.number-index l.out l.at
