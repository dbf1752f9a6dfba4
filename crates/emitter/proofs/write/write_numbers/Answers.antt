-- `write_numbers` meets its contract. The loop's invariant is `Left`: what is left, written where the last number ended, makes the whole.
use native.Mathlib.Omega.{arith}
use Rattle.reading.specs.Numbers.{number_bytes}
use Rattle.emitter.proofs.Writing.{left_more, left_none}
use Rattle.emitter.proofs.write.write_numbers.Goals as goal

pub loop-number-preserved : goal.loop-number-preserved
loop-number-preserved c =
    left_more number_bytes _ _ _ _ _ _ 0 _ _ (omega arith) c.loop-number.invariant c.write_number-at.ensures.buffer c.write_number-at.ensures.place

pub returns : goal.returns
returns c =
    let (buffer, place) = left_none number_bytes _ _ _ _ _ _ (omega arith) c.loop-number.invariant in record { buffer = buffer; place = place }
