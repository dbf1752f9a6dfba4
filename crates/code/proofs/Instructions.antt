-- The bytes of the instruction of a code byte and its numbers, code byte by code byte; and how long code is.
use mathlib.Core.Path.{◌≡◌, refl}
use mathlib.Core.List.{[], ◌∷◌, append-nil}
use Prim.Native.Nat.{ℕ, ◌+◌, ◌*◌, ◌≤◌, ◌<◌}
use native.Mathlib.Omega.{arith}
use lib.ListN.{length, length-append}
use Rattle.reading.specs.InTurn.{bytes_of_all}
use Rattle.reading.specs.Items.{item_bytes, no_code, numbers_bytes, look, instruction_codes, numbers_of as numbersIn}
use Rattle.reading.specs.declared.item.Table.{Table}
use Rattle.reading.proofs.Items.{by_row}
use Rattle.reading.proofs.Numbers.{number_length}
use Rattle.code.specs.declared.instruction.Instruction.{Instruction}
use Rattle.code.specs.declared.instruction.Instruction.TheVariants.{One, Flag, Nand, Reach, Later}
use Rattle.code.specs.Code.{Code, instruction_of, bytes_of_instruction}
use Rattle.code.specs.Loading.{reach_of, reaches_in}

-- an instruction's bytes are those of the item that is read
pub instruction_bytes : (code : ℕ) → numbersIn Table.Code code < no_code → (i j k : ℕ)
    → item_bytes Table.Code code i j k ≡ bytes_of_instruction (instruction_of code i j k)
unfolding item_bytes numbers_bytes look instruction_codes bytes_of_instruction instruction_of
instruction_bytes =
    by_row (λ code. (i j k : ℕ) → item_bytes Table.Code code i j k ≡ bytes_of_instruction (instruction_of code i j k)) instruction_codes
    ((λ i j k. refl), ((λ i j k. rw append-nil), ((λ i j k. rw append-nil), ((λ i j k. rw append-nil), ((λ i j k. rw append-nil), tt)))))

-- The bytes of code: five of an instruction at most, and two more of a REACH
instruction_length : (i : Instruction) → length (bytes_of_instruction i) ≤ 5 + 2 * reach_of i
unfolding bytes_of_instruction
instruction_length One = omega arith
instruction_length (Flag k) = omega (arith, number_length k)
instruction_length (Nand i j) = simp length-append (omega (arith, number_length i, number_length j))
instruction_length (Reach i j w) = simp length-append (omega (arith, number_length i, number_length j, number_length w))
instruction_length (Later i d) = simp length-append (omega (arith, number_length i, number_length d))

pub code_length : (code : Code) → length (bytes_of_all bytes_of_instruction code) ≤ 5 * length code + 2 * reaches_in code
unfolding bytes_of_all reaches_in
code_length [] = omega arith
code_length (i ∷ is) = simp length-append (omega (arith, instruction_length i, code_length is))
