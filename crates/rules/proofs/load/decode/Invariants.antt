-- `decode` meets its contract. The loop's invariant is `RuleTurn`, and each way out of a turn is one of its laws. The measure is how many bytes are left.
use Prim.Native.Nat.{◌-◌}
use lib.ListN.{length}
use Rattle.reading.specs.Items.{Over}
use Rattle.reading.specs.declared.item.Table.{Table}
use Rattle.rules.proofs.Turns.{RuleTurn}
use Rattle.rules.proofs.load.decode.Given as goal

abbrev pub invariant-loop-read : goal.invariant-loop-read
invariant-loop-read l = Over Table.Rule l.bytes l.reader × RuleTurn l.bytes l.gathered l.reader.at

abbrev pub decreases-loop-read : goal.decreases-loop-read
decreases-loop-read l = length l.bytes - l.reader.at
