-- `shift_in` meets its contract. The loop's invariant: up to p the line has moved (`moved`).
use Rattle.std.proofs.Common.{◌≡◌, ◌+◌, ◌-◌, arith}
use Rattle.sequencer.proofs.Shifting.{moved_none, moved_more, shifted_moved}
use Rattle.sequencer.proofs.frame.shift_in.Goals as goal

pub loop-p-init : goal.loop-p-init
loop-p-init c = moved_none _ _

pub loop-p-preserved : goal.loop-p-preserved
loop-p-preserved c = rw c.loop-p.invariant (moved_more c.args.delays.now c.args.at c.loop-p.p (omega arith) (omega arith) _)

pub returns : goal.returns
returns c = let last : c.loop-p.p ≡ c.args.last = omega arith in
    rw (c.loop-p.invariant, last)
    (shifted_moved c.args.delays.now c.args.at (c.args.last + 1 - c.args.at) c.args.last (omega arith) (omega arith) (omega arith) c.args.newest)
