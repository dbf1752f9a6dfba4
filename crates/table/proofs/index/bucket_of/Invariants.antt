-- `bucket_of` meets its contract. The loop's invariant: the hash is that of the parts passed.
use Rattle.std.proofs.Common.{◌≡◌}
use Rattle.table.specs.Inner.Index.{hashed, part_of}
use Rattle.table.specs.Inner.Records.{byte_at}
use Rattle.table.proofs.index.bucket_of.Given as goal

abbrev pub invariant-loop-part : goal.invariant-loop-part
invariant-loop-part l = (l.hash ≡ hashed l.part-index (part_of (byte_at l.key)))
