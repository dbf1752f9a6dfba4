-- `read_numbers` meets its contract. The loop's invariant is `ReadingNumbers`, and each way on is one of its laws.
use Rattle.reading.proofs.Items.{ReadingNumbers}
use Rattle.reading.proofs.item.read_numbers.Given as goal

abbrev pub invariant-loop-number : goal.invariant-loop-number
invariant-loop-number l = ReadingNumbers l.bytes l.at l.code l.count l.number-items l.next l.number-index
