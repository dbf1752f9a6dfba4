-- `delays_of` meets its contract. The loop's invariant: the first i delay bits are read (`DelaysOf`).
use Rattle.std.proofs.Common.{refl, arith}
use Rattle.ground.specs.Frames.{has_flag}
use Rattle.table.proofs.Records.{delays_more}
use Rattle.table.proofs.record.delays_of.Goals as goal

pub loop-i-preserved : goal.loop-i-preserved
unfolding has_flag
loop-i-preserved c = delays_more c.loop-i.invariant (omega arith) _ refl
