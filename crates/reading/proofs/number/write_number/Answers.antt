-- `write_number` meets its contract: the tests say which bytes the number has, and `write_bytes` writes them.
use Rattle.reading.proofs.Numbers.{bytes_one, bytes_two, bytes_none}
use Rattle.ground.proofs.Written.{nothing}
use Rattle.reading.proofs.number.write_number.Goals as goal

pub returns-then-value-lt-GROUP : goal.returns-then-value-lt-GROUP
returns-then-value-lt-GROUP c = rw (bytes_one c.args.value c.if-value-lt-GROUP.true) c.write_bytes.ensures

pub returns-then-value-gt-MOST_NUMBER : goal.returns-then-value-gt-MOST_NUMBER
returns-then-value-gt-MOST_NUMBER c =
    let (own, place) = nothing c.args.buffer.now c.args.at in
    rw (bytes_none c.args.value c.if-value-lt-GROUP.false c.if-value-gt-MOST_NUMBER.true) record { buffer = own; place = place }

pub returns : goal.returns
returns c = rw (bytes_two c.args.value c.if-value-lt-GROUP.false c.if-value-gt-MOST_NUMBER.false) c.write_bytes-2.ensures
