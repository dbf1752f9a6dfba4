-- `key_of` meets its contract. The loop's invariant: the first j bytes are those of the registers.
use Rattle.std.proofs.Common.{arith, rules}
use Rattle.table.proofs.record.key_of.Goals as goal

pub returns : goal.returns
returns c = record { whole = search rules; own = λ j h. c.loop-j.invariant j (omega arith) }
