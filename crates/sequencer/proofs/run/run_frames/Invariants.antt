-- `run_frames` meets its contract. The loop's invariant is `Runs`: one frame more is one step.
use Rattle.sequencer.proofs.Running.{Runs}
use Rattle.sequencer.proofs.run.run_frames.Given as goal

abbrev pub invariant-loop-at : goal.invariant-loop-at
invariant-loop-at l = Runs l.code l.clip l.initial.out l.sequencer.registers l.out l.at
