-- The step. Document 01: "The sequencer takes one frame at a time .. and hands its registers back", "A step refuses
-- code as the run does and then hands the registers back unchanged."
use Rattle.std.specs.Prelude.{ℕ, Ok, Err}
use Rattle.reading.specs.InTurn.{AllRead, items, refused}
use Rattle.code.specs.declared.instruction.Instruction.{Instruction}
use Rattle.code.specs.Code.{Code}
use Rattle.sequencer.specs.Registers.{Working, start, executed, registers_of, output_of}
use Rattle.sequencer.specs.declared.registers.Advanced.{Advanced}
use Rattle.sequencer.specs.declared.registers.Registers.{Registers}
use Rattle.sequencer.specs.declared.registers.Stepped.{Stepped}

-- What a frame through code hands back, from where its instructions leave it
abbrev pub advanced_from : Code → Working → Advanced
advanced_from code s = record { bit = output_of code s; registers = registers_of s }

-- What a frame through code hands back
unfoldable pub advanced_by : Code → ℕ → Registers → Advanced
advanced_by code frame r = advanced_from code (executed frame code (start r))

-- What a step by accepted code hands back
abbrev pub stepped_by : Advanced → Stepped
stepped_by a = record { output = Ok a.bit; registers = a.registers }

-- What a step hands back
abbrev pub stepped_of : AllRead Instruction → ℕ → Registers → Stepped
stepped_of (items code) frame r = stepped_by (advanced_by code frame r)
stepped_of (refused refusal) frame r = record { output = Err refusal; registers = r }
