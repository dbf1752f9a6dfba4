-- `key_byte` meets its contract, by the test whether the place is one of a counter's bytes.
use Rattle.std.proofs.Common.{◌-◌, ◌/◌, [], length, arith, rules}
use Rattle.table.specs.Inner.Records.{byte_bits, counter_bytes}
use Rattle.table.proofs.Records.{key_counter, key_delays, half_bytes, delays_chunk}
use Rattle.table.proofs.record.key_byte.Goals as goal

pub returns-then-j-lt-COUNTER_BYTES : goal.returns-then-j-lt-COUNTER_BYTES
returns-then-j-lt-COUNTER_BYTES c =
    rw (key_counter _ _ c.if-j-lt-COUNTER_BYTES.true, c.to_le_bytes.ensures) (half_bytes _ _ (search rules) (omega arith))

pub returns : goal.returns
returns c =
    let d = c.args.registers.now.delays in
    rw (key_delays _ _ c.if-j-lt-COUNTER_BYTES.false, c.bits_byte.ensures, c.as_chunks.ensures.front)
    (delays_chunk d (length d / byte_bits) (c.args.j - counter_bytes) [] (omega arith))
