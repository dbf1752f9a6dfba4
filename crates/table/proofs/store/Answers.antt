-- `store` meets its contract: what is written into the parts that it lends is put in the place of the record, and of the record that tells its bucket's head.
use Rattle.table.proofs.Tables.{part_record, stores}
use Rattle.table.proofs.store.Goals as goal

pub returns : goal.returns
returns c =
    let head = rw c.record_at.ensures at c.read_link-head.ensures.0 in
    let written = rw part_record at c.write_record.ensures in
    let linked = rw part_record at c.write_link.ensures in
    stores _ _ _ _ _ _ _ _ _ _ c.requires c.key_of-key.ensures c.bucket_of-bucket.ensures.0 c.bucket_of-bucket.ensures.1 head written linked
