-- `stirred` meets its contract: a turn, a sum and a product, of which what passes a hash's bits falls away.
use Rattle.std.proofs.Common.{arith}
use Rattle.table.proofs.Keys.{stirred_in}
use Rattle.table.proofs.index.stirred.Goals as goal

pub returns : goal.returns
returns c = rw c.rotate_right.ensures (stirred_in _ _ (omega arith))
