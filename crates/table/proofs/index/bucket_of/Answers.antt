-- `bucket_of` meets its contract. The loop's invariant: the hash is that of the parts passed.
use Rattle.std.proofs.Common.{◌≡◌, ◌/◌, [], length, refl, arith}
use Rattle.table.specs.Inner.Index.{hashed, bucket_of, part_bytes}
use Rattle.table.specs.Inner.Records.{key_bytes}
use Rattle.table.proofs.Keys.{hashed_more, part_chunk, bucket_below}
use Rattle.table.proofs.index.bucket_of.Goals as goal

pub loop-part-init : goal.loop-part-init
unfolding hashed
loop-part-init c = refl

pub loop-part-preserved : goal.loop-part-preserved
loop-part-preserved c =
    let chunk = part_chunk c.args.key.now (length c.args.key.now / part_bytes) c.loop-part.part-index [] (omega arith) in
    let part = rw (c.as_chunks.ensures.front, chunk) at c.from_le_bytes.ensures in
    rw (hashed_more, ← c.loop-part.invariant, ← part) c.stirred-hash.ensures

pub returns : goal.returns
unfolding bucket_of
returns c =
    let all : c.loop-part.part-index ≡ key_bytes / part_bytes = omega arith in
    let own = rw all at c.loop-part.invariant in
    (rw own, bucket_below _ _ (omega arith) c.requires.0)
