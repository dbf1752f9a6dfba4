-- `read_frame` meets its contract. The loop's invariant is `Executing`: what stands in the sequencer is what a step has made of the instructions so far.
use Rattle.sequencer.proofs.Through.{Executing}
use Rattle.sequencer.proofs.frame.Sequencer.read_frame.Given as goal

abbrev pub invariant-loop-n : goal.invariant-loop-n
invariant-loop-n l = Executing l.code l.frame l.fn.self l.n l.taken l.self
