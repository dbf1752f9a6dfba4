-- `shift_in` meets its contract. The loop's invariant: up to p the line has moved (`moved`).
use Rattle.std.proofs.Common.{◌≡◌}
use Rattle.sequencer.proofs.Shifting.{moved}
use Rattle.sequencer.proofs.frame.shift_in.Given as goal

abbrev pub invariant-loop-p : goal.invariant-loop-p
invariant-loop-p l = l.delays ≡ moved l.initial.delays l.at l.p
