-- What the registers hold after a clip, twice: by what the bits mean, and step by step from fresh ones.
-- `proofs/After.antt` shows that the two are the same.
use Rattle.std.specs.Prelude.{Bool, List, [], ◌∷◌, ◌++◌, ℕ, zero, suc}
use Rattle.ground.specs.Buffers.{over}
use Rattle.ground.specs.Frames.{Clip}
use Rattle.sequencer.specs.Bits.{Wire, counter, later, wire, wire_of}
use Rattle.code.specs.declared.instruction.Instruction.{Instruction}
use Rattle.code.specs.declared.instruction.Instruction.TheVariants.{One, Flag, Nand, Reach, Later}
use Rattle.code.specs.Code.{Code}
use Rattle.sequencer.specs.Registers.{kept, fresh_registers, start, executed, registers_of}
use Rattle.sequencer.specs.declared.registers.Registers.{Registers}

-- The last d bits of a wire, the oldest first
unfoldable pub window : ℕ → Wire → Clip → List Bool
window zero i c = []
window (suc d) i c = later d i c ∷ window d i c

-- The counter of an instruction after a clip, by the bits of the instructions before it: REACH has one
abbrev pub own_counter : List Wire → Instruction → Clip → List ℕ
own_counter ws One c = []
own_counter ws (Flag k) c = []
own_counter ws (Nand i j) c = []
own_counter ws (Reach i j w) c = kept (counter w (wire ws i) (wire ws j) c) ∷ []
own_counter ws (Later i d) c = []

-- The delay bits of an instruction after a clip: LATER has d
abbrev pub own_delays : List Wire → Instruction → Clip → List Bool
own_delays ws One c = []
own_delays ws (Flag k) c = []
own_delays ws (Nand i j) c = []
own_delays ws (Reach i j w) c = []
own_delays ws (Later i d) c = window d (wire ws i) c

-- The counters of instructions after a clip, in code order
unfoldable pub counters_of : List Wire → Code → Clip → List ℕ
counters_of ws [] c = []
counters_of ws (i ∷ is) c = own_counter ws i c ++ counters_of (ws ++ wire_of ws i ∷ []) is c

-- The delay bits of instructions after a clip, in code order
unfoldable pub delays_of : List Wire → Code → Clip → List Bool
delays_of ws [] c = []
delays_of ws (i ∷ is) c = own_delays ws i c ++ delays_of (ws ++ wire_of ws i ∷ []) is c

-- What the registers hold after a clip, by what the bits mean
unfoldable pub registers_after : Code → Clip → Registers
registers_after code c =
    record {
      counters = over (counters_of [] code c) fresh_registers.counters;
      delays = over (delays_of [] code c) fresh_registers.delays;
    }

-- The registers after a clip, step by step from fresh ones
unfoldable pub steps_over : Code → Clip → Registers
steps_over code [] = fresh_registers
steps_over code (x ∷ c) = registers_of (executed x code (start (steps_over code c)))
