-- `write_record` meets its contract: the key is copied over the first bytes, and what is written behind it leaves it.
use Rattle.std.proofs.Common.{arith, sym}
use Rattle.std.proofs.lemmas.List.{length-take-le}
use Rattle.table.specs.Inner.Records.{key_bytes}
use Rattle.table.proofs.Records.{written}
use Rattle.table.proofs.record.write_record.Goals as goal

pub slice_bounds-copy_from_slice-end-2 : goal.slice_bounds-copy_from_slice-end-2
slice_bounds-copy_from_slice-end-2 c = sym (length-take-le _ _ (omega arith))

pub copy_from_slice-requires : goal.copy_from_slice-requires
copy_from_slice-requires c = omega (arith, length-take-le key_bytes c.args.bytes.now (omega arith))

pub returns : goal.returns
returns c =
    let linked = rw c.copy_from_slice.ensures.after at c.write_link.ensures in
    written (omega arith) (omega arith) linked c.write_link-2.ensures
