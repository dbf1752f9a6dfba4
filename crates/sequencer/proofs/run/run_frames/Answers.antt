-- `run_frames` meets its contract. The loop's invariant is `Runs`: one frame more is one step.
use mathlib.Core.Path.{◌≡◌}
use native.Mathlib.Omega.{arith}
use Rattle.sequencer.proofs.Running.{runs_first, runs_more}
use Rattle.sequencer.proofs.run.run_frames.Goals as goal

pub loop-at-init : goal.loop-at-init
loop-at-init c = rw (c.new-sequencer.ensures, c.fresh.ensures) (runs_first _ _ _ c.requires.sound)

pub loop-at-preserved : goal.loop-at-preserved
loop-at-preserved c = runs_more _ _ _ c.requires c.loop-at.invariant _ (omega arith) (omega arith) _ c.read_frame.ensures _ c.byte_of.ensures

pub returns : goal.returns
returns c = let none : c.loop-at.at ≡ 0 = omega arith in
    rw none at c.loop-at.invariant.buffer
