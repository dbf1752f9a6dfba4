-- `key_of` meets its contract. The loop's invariant: the first j bytes are those of the registers.
use Rattle.std.proofs.Common.{◌≡◌, ℕ, ◌<◌, get_or}
use Rattle.table.specs.Inner.Records.{key_byte}
use Rattle.table.proofs.record.key_of.Given as goal

abbrev pub invariant-loop-j : goal.invariant-loop-j
invariant-loop-j l = (k : ℕ) → k < l.j → get_or l.byte-items k 0 ≡ key_byte l.registers k
