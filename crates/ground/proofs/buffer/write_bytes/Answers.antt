-- `write_bytes` meets its contract: the tests say whether the bytes fit, and a copy into the part of the buffer behind the place is what `written` says.
use Rattle.std.proofs.Common.{arith, length, ◌+◌, ◌<◌}
use Rattle.ground.proofs.buffer.write_bytes.Goals.{then-buffer-at-via-then-buffer-at, then-buffer-at-via-else-buffer-at+then-buffer-at-2}
use Rattle.ground.proofs.Written.{unfitting, copied}
use Rattle.ground.proofs.buffer.write_bytes.Goals as goal

pub returns-then-buffer-at : goal.returns-then-buffer-at
returns-then-buffer-at c =
    let short : length c.args.buffer.now < c.args.at + length c.args.bytes.now =
    elim c.then-buffer-at.branch [
      | then-buffer-at-via-then-buffer-at w ↦ omega (arith, w.if-buffer-at.true)
      | then-buffer-at-via-else-buffer-at+then-buffer-at-2 w ↦ omega (arith, w.if-buffer-at-2.true)
    ] in
    let (a, b) = unfitting _ _ _ short in
    record { buffer = a; place = b }

pub returns : goal.returns
returns c =
    let (a, b) = copied c.args.buffer.now c.args.at c.args.bytes.now _ (omega arith) c.copy_from_slice.ensures.after in
    record { buffer = a; place = b }
