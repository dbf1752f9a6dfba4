-- What one instruction and one frame through code that is loaded need of a sequencer and leave in it. Contracts of
-- inner functions cite it; `step` and `run` say nothing of it.
use Rattle.std.specs.Prelude.{◌≡◌, Bool, false, List, ℕ, ◌+◌, ◌≤◌, length, take, replicate}
use Rattle.ground.specs.Buffers.{over}
use Rattle.ground.specs.Limits.{limits}
use Rattle.code.specs.declared.instruction.Instruction.{Instruction}
use Rattle.code.specs.Code.{Code}
use Rattle.code.specs.Loading.{reach_of, distance_of}
use Rattle.code.specs.Good.{FitsBehind}
use Rattle.code.specs.Programs.{Sound}
use Rattle.sequencer.specs.Registers.{Working, start, wrote, execute, executed}
use Rattle.sequencer.specs.Stepping.{advanced_by}
use Rattle.sequencer.specs.declared.frame.Sequencer.{Sequencer}
use Rattle.sequencer.specs.declared.frame.Taken.{Taken}
use Rattle.sequencer.specs.declared.registers.Registers.{Registers}

-- A sequencer with registers, before the first instruction of a frame
abbrev pub at_work : Registers → Sequencer
at_work r = record { registers = r; bits = replicate limits.instructions false }

-- Where a frame stands behind n instructions
abbrev pub stands_at : ℕ → Taken → Sequencer → Working
stands_at n t s =
    record {
      bits = take n s.bits;
      counters = s.registers.counters;
      used = t.counters;
      delays = s.registers.delays;
      taken = t.delays;
    }

-- What an instruction finds: its operands and its registers have their places, and it asks for what it may
pub record Served (i : Instruction) (t : Taken) : Type 0 where
  pub fits : FitsBehind limits.instructions i
  pub counter : t.counters + reach_of i ≤ limits.counters
  pub line : t.delays + distance_of i ≤ limits.delays

-- What an instruction makes of where the frame stood, behind any instructions that include its operands: its bit and
-- its registers; the bits that are written stay
pub record Executes (i : Instruction) (frame : ℕ) (t t' : Taken) (s s' : Sequencer) (b : Bool) : Type 0 where
  pub stands : (n : ℕ) → FitsBehind n i
      → wrote (stands_at n t' s') b ≡ execute frame (stands_at n t s) i
  pub bits : s'.bits ≡ s.bits

-- What a frame through code leaves: the output and the registers, and its bits with what stood behind them
pub record Leaves (code : Code) (frame : ℕ) (r : Bool) (s s' : Sequencer) : Type 0 where
  pub advanced : record { bit = r; registers = s'.registers } ≡ advanced_by code frame s.registers
  pub own_bits : s'.bits ≡ over (executed frame code (start s.registers)).bits s.bits

-- Sound code, and a clip whose verdicts have room
pub record CanRun (code : Code) (clip out : List ℕ) : Type 0 where
  pub sound : Sound code
  pub room : length clip ≤ length out
