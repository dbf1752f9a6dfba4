-- `bits_byte` meets its contract. The loop's invariant: the byte is the number of the bits passed.
use Rattle.std.proofs.Common.{◌≡◌}
use Rattle.table.specs.Inner.Records.{bits_value}
use Rattle.table.proofs.record.bits_byte.Given as goal

abbrev pub invariant-loop-k : goal.invariant-loop-k
invariant-loop-k l = l.byte ≡ bits_value l.k l.bits
