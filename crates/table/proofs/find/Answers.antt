-- `find` meets its contract. The loop's invariant: the walk down the chain of the key's bucket is at the next record (`Looking`). The measure is how far it has
-- to go, since a chain goes down.
use Rattle.table.specs.Inner.Records.{HasKey}
use Rattle.table.proofs.Tables.{looking_first, looking_more, looking_less, looks_some, looks_none}
use Rattle.table.proofs.find.Goals as goal

pub loop-next-init : goal.loop-next-init
loop-next-init c =
    looking_first _ _ _ _ c.bucket_of-bucket.ensures.0 c.bucket_of-bucket.ensures.1 (rw c.record_at.ensures at c.read_link-next.ensures.0)

pub returns-then-same_key : goal.returns-then-same_key
returns-then-same_key c =
    let same = rw c.record_at-bytes.ensures at (c.same_key.ensures.0 c.if-same_key.true) in
    looks_some _ _ _ c.loop-next.invariant c.in-Some.is same _ c.key_of-key.ensures

pub loop-next-smaller : goal.loop-next-smaller
loop-next-smaller c =
    let chain = rw c.record_at-bytes.ensures at c.read_link-next-in-Some.ensures.0 in
    looking_less _ _ _ c.loop-next.invariant c.in-Some.is _ c.key_of-key.ensures _ c.requires.1 _ chain

pub loop-next-preserved : goal.loop-next-preserved
loop-next-preserved c =
    let chain = rw c.record_at-bytes.ensures at c.read_link-next-in-Some.ensures.0 in
    let other : HasKey c.key_of-key.result c.record_at-bytes.result.now → ⊥ = λ has. let same = c.same_key.ensures.1 has in cc in
    looking_more _ _ _ c.loop-next.invariant c.in-Some.is _ (rw c.record_at-bytes.ensures at other) chain

pub returns : goal.returns
returns c = looks_none _ _ _ c.loop-next.invariant c.in_default.is _ c.key_of-key.ensures
