-- `record_at` meets its contract: a table that is cut into arrays of a record's length has its records there.
use Rattle.std.proofs.Common.{[], arith}
use Rattle.ground.specs.Limits.{limits}
use Rattle.table.specs.Inner.Records.{room_in}
use Rattle.table.proofs.Records.{chunk_at}
use Rattle.table.proofs.record_at.Goals as goal

pub returns : goal.returns
returns c =
    let table = c.args.table.now in
    rw c.as_chunks.ensures.front (chunk_at limits.record_bytes (room_in table) table c.args.n [] (omega arith))
