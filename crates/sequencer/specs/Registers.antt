-- Registers and one step. Document 01: "Registers: sixteen counters and 256 delay bits. Instructions take counters and
-- delay bits in code order, a LATER's bits oldest first; unused registers stay as they are .. Fresh registers: every
-- counter "none", every delay bit 0." A counter is kept as a number: 0 for "none", else one more than its count.
use Rattle.std.specs.Prelude.{Bool, true, false, not, ◌&&◌, List, [], ◌∷◌, ◌++◌, ℕ, zero, suc, ◌+◌, ◌-◌, length, get_or}
use Rattle.std.specs.Prelude.{take, drop, set, replicate}
use Rattle.ground.specs.Frames.{has_flag}
use Rattle.ground.specs.Limits.{limits}
use Rattle.code.specs.declared.instruction.Instruction.{Instruction}
use Rattle.code.specs.declared.instruction.Instruction.TheVariants.{One, Flag, Nand, Reach, Later}
use Rattle.code.specs.Code.{Code}
use Rattle.sequencer.specs.Bits.{Counter, none, count, next, is_on}
use Rattle.sequencer.specs.declared.registers.Registers.{Registers}

-- The counter that a number keeps
abbrev pub counter_of : ℕ → Counter
counter_of zero = none
counter_of (suc n) = count n

-- The number that keeps a counter
abbrev pub kept : Counter → ℕ
kept none = 0
kept (count n) = suc n

-- Fresh registers
abbrev pub fresh_registers : Registers
fresh_registers = record { counters = replicate limits.counters 0; delays = replicate limits.delays false }

-- Where a step stands: the bits written so far, the registers, and how many counters and delay bits are taken
pub record Working : Type 0 where
  pub bits : List Bool
  pub counters : List ℕ
  pub used : ℕ
  pub delays : List Bool
  pub taken : ℕ

-- A step begins: no bit is written, no register is taken
abbrev pub start : Registers → Working
start r = record { bits = []; counters = r.counters; used = 0; delays = r.delays; taken = 0 }

-- A bit written by an earlier instruction, by its number
abbrev pub bit : Working → ℕ → Bool
bit s i = get_or s.bits i false

-- One bit more, and no register
abbrev pub wrote : Working → Bool → Working
wrote s b =
    record {
      bits = s.bits ++ b ∷ [];
      counters = s.counters;
      used = s.used;
      delays = s.delays;
      taken = s.taken;
    }

-- REACH takes the next counter: what it becomes decides the bit
abbrev pub reached : Working → Counter → Working
reached s n =
    record {
      bits = s.bits ++ is_on n ∷ [];
      counters = set s.counters s.used (kept n);
      used = s.used + 1;
      delays = s.delays;
      taken = s.taken;
    }

-- Delay bits of which those of one line, d from a place on, move on: the oldest falls out, and the newest comes in last
unfoldable pub shifted : List Bool → ℕ → ℕ → Bool → List Bool
shifted delays at d newest = take at delays ++ (drop (at + 1) (take (at + d) delays) ++ newest ∷ drop (at + d) delays)

-- LATER takes the next d delay bits: the oldest is its bit
abbrev pub delayed : Working → ℕ → Bool → Working
delayed s d newest =
    record {
      bits = s.bits ++ get_or s.delays s.taken false ∷ [];
      counters = s.counters;
      used = s.used;
      delays = shifted s.delays s.taken d newest;
      taken = s.taken + d;
    }

-- One instruction on a frame
unfoldable pub execute : ℕ → Working → Instruction → Working
execute frame s One = wrote s true
execute frame s (Flag k) = wrote s (has_flag k frame)
execute frame s (Nand i j) = wrote s (not (bit s i && bit s j))
execute frame s (Reach i j w) = reached s (next w (bit s i) (bit s j) (counter_of (get_or s.counters s.used 0)))
execute frame s (Later i d) = delayed s d (bit s i)

-- Instructions in turn
unfoldable pub executed : ℕ → Code → Working → Working
executed frame [] s = s
executed frame (i ∷ is) s = executed frame is (execute frame s i)

-- What a step leaves in the registers
abbrev pub registers_of : Working → Registers
registers_of s = record { counters = s.counters; delays = s.delays }

-- The output of a step: the last instruction's bit
abbrev pub output_of : Code → Working → Bool
output_of code s = bit s (length code - 1)
