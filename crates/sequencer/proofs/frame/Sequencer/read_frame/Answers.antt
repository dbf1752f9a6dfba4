-- `read_frame` meets its contract. The loop's invariant is `Executing`: what stands in the sequencer is what a step has made of the instructions so far.
use native.Mathlib.Omega.{arith}
use Rattle.code.proofs.Counting.{good_instructions}
use Rattle.sequencer.proofs.Through.{through_first, serves, through_more, through_all}
use Rattle.sequencer.proofs.frame.Sequencer.read_frame.Goals as goal

pub loop-n-init : goal.loop-n-init
loop-n-init c = through_first _ _ _ (omega arith) _ c.default-taken.ensures

pub execute-requires : goal.execute-requires
execute-requires c = serves _ _ _ c.requires c.loop-n.invariant (omega arith)

pub bounds-self-n : goal.bounds-self-n
bounds-self-n c = omega (arith, good_instructions _ c.requires.good)

pub loop-n-preserved : goal.loop-n-preserved
loop-n-preserved c = through_more _ _ _ c.requires c.loop-n.invariant (omega arith) _ _ _ c.execute.ensures

pub returns : goal.returns
returns c = through_all _ _ _ c.requires c.loop-n.invariant (omega arith) _ (omega (arith, c.requires.some))
