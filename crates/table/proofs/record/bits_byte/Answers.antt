-- `bits_byte` meets its contract. The loop's invariant: the byte is the number of the bits passed.
use Rattle.std.proofs.Common.{refl}
use Rattle.table.specs.Inner.Records.{bits_value}
use Rattle.table.proofs.Records.{bits_set}
use Rattle.table.proofs.record.bits_byte.Goals as goal

pub loop-k-init : goal.loop-k-init
unfolding bits_value
loop-k-init c = refl

pub loop-k-preserved : goal.loop-k-preserved
loop-k-preserved c = rw (c.loop-k.invariant, c.from.ensures) (bits_set _ _ c.loop-k-test.true)
