-- `decode` meets its contract. The loop's invariant is `CodeTurn`, and each way out of a turn is one of its laws. The measure is how many bytes are left.
use Rattle.std.proofs.Common.{◌-◌, length}
use Rattle.reading.specs.Items.{Over}
use Rattle.reading.specs.declared.item.Table.{Table}
use Rattle.code.proofs.Turns.{CodeTurn}
use Rattle.code.proofs.load.decode.Given as goal

abbrev pub invariant-loop-read : goal.invariant-loop-read
invariant-loop-read l = Over Table.Code l.bytes l.reader × CodeTurn l.bytes l.instructions l.counts l.reader.at

abbrev pub decreases-loop-read : goal.decreases-loop-read
decreases-loop-read l = length l.bytes - l.reader.at
