-- `execute` meets its contract: each arm is one of the instruction's laws.
use mathlib.Core.Path.{◌≡◌}
use Prim.Native.Nat.{◌+◌, ◌-◌}
use native.Mathlib.Omega.{arith}
use Rattle.sequencer.proofs.Through.{executes_one, executes_flag, executes_nand, executes_reach, executes_later}
use Rattle.sequencer.proofs.frame.Sequencer.execute.Goals as goal

pub returns-in-One : goal.returns-in-One
returns-in-One c = rw c.in-One.is (executes_one _ _ _)

pub returns-in-Flag : goal.returns-in-Flag
returns-in-Flag c = rw c.in-Flag.is (executes_flag _ _ _ _ _ c.has_flag.ensures)

pub returns-in-Nand : goal.returns-in-Nand
returns-in-Nand c = rw c.in-Nand.is (executes_nand _ _ _ _ _ _ (rw (c.bit.ensures, c.bit-in-Nand.ensures) at c.nand.ensures))

pub returns-in-Reach : goal.returns-in-Reach
returns-in-Reach c = rw c.in-Reach.is (executes_reach _ _ _ _ _ _ _ (rw (c.bit-i.ensures, c.bit-j.ensures) at c.next_counter.ensures))

pub returns-in-Later : goal.returns-in-Later
returns-in-Later c =
    let fits = rw c.in-Later.is at c.requires.fits in
    let long : c.args.taken.now.delays + c.from.result - 1 + 1 - c.args.taken.now.delays ≡ c.in-Later.d = omega (arith, c.from.ensures, fits.1) in
    rw (c.in-Later.is, c.from.ensures) (executes_later _ _ _ _ _ _ long _ c.bit-newest.ensures _ c.shift_in.ensures)
