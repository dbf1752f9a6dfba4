-- The sequencer's instructions, their numbers and their bytes. Document 01, "The sequencer": "Each instruction writes
-- one bit, known by the instruction's number from 0", and its table of codes: "01 ONE, 02 k FLAG, 03 i j NAND, 04 i j w
-- REACH, 05 i d LATER".
use Rattle.std.specs.Prelude.{cond, List, [], ◌∷◌, ◌++◌, ℕ, eqb}
use Rattle.reading.specs.Numbers.{number_bytes}
use Rattle.code.specs.declared.instruction.Instruction.{Instruction}
use Rattle.code.specs.declared.instruction.Instruction.TheVariants.{One, Flag, Nand, Reach, Later}

-- Code: its instructions, in order
abbrev pub Code : Type 0
Code = List Instruction

-- The instruction of a code byte and the numbers behind it; the reader has refused any code byte but these five
unfoldable pub instruction_of : ℕ → ℕ → ℕ → ℕ → Instruction
instruction_of code i j k =
    cond (eqb code 0x01) One
    (cond (eqb code 0x02) (Flag i)
    (cond (eqb code 0x03) (Nand i j)
    (cond (eqb code 0x04) (Reach i j k) (Later i j))))

-- The bytes of an instruction: its code byte, and its numbers in the shortest form
unfoldable pub bytes_of_instruction : Instruction → List ℕ
bytes_of_instruction One = 0x01 ∷ []
bytes_of_instruction (Flag k) = 0x02 ∷ number_bytes k
bytes_of_instruction (Nand i j) = 0x03 ∷ (number_bytes i ++ number_bytes j)
bytes_of_instruction (Reach i j w) = 0x04 ∷ (number_bytes i ++ (number_bytes j ++ number_bytes w))
bytes_of_instruction (Later i d) = 0x05 ∷ (number_bytes i ++ number_bytes d)
