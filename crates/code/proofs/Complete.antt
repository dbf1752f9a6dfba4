-- Good code is read from its bytes: each instruction is fine after those before it, so none is refused in its turn, and its numbers are small enough to be
-- read.
use mathlib.Core.Path.{◌≡◌, refl, ap, ◌∙◌}
use mathlib.Core.List.{[], ◌∷◌, ◌++◌, append_assoc}
use Prim.Native.Nat.{ℕ, ◌≤◌, ◌<◌}
use native.Mathlib.Omega.{arith}
use lib.ListN.{length, take, length-append}
use lib.Seq.{take-append_seam, get_or-append_seam}
use Rattle.ground.specs.Each.{Each}
use Rattle.reading.specs.InTurn.{items, bytes_of_all}
use Rattle.reading.specs.Items.{no_code, look, instruction_codes, numbers_of as numbersIn}
use Rattle.ground.specs.Limits.{limits}
use Rattle.ground.specs.Padded.{padded}
use Rattle.reading.specs.declared.item.Table.{Table}
use Rattle.reading.proofs.InTurn.{Numbered, Passes, all_there}
use Rattle.code.specs.declared.instruction.Instruction.{Instruction}
use Rattle.code.specs.declared.instruction.Instruction.TheVariants.{One, Flag, Nand, Reach, Later}
use Rattle.code.specs.Code.{Code, instruction_of, bytes_of_instruction}
use Rattle.code.specs.Good.{FineInstruction, GoodCode}
use Rattle.code.specs.Loading.{instruction_outcome, code_kind, read_code}
use Rattle.code.proofs.Instructions.{instruction_bytes}
use Rattle.code.proofs.Checking.{not_refused}

-- a code byte and the numbers behind it, of which an instruction is made
numbers : {i : Instruction} (code x y z : ℕ) → (numbersIn Table.Code code < no_code) × (x ≤ limits.number) × (y ≤ limits.number) × (z ≤ limits.number)
    → x ∷ y ∷ z ∷ [] ≡ padded 3 (take (numbersIn Table.Code code) (x ∷ y ∷ z ∷ [])) → instruction_of code x y z ≡ i → Numbered code_kind bytes_of_instruction i
numbers code x y z small lacks makes =
    record {
      code = code;
      first = x;
      second = y;
      third = z;
      fits = record { known = small.0; first = omega arith; second = omega arith; third = omega arith; lacks = lacks };
      makes = makes;
      same = instruction_bytes code small.0 x y z ∙ ap bytes_of_instruction makes;
    }

-- operands are below the number of instructions, and the limits are far below what can be read
numbered : (is : Code) (i : Instruction) → FineInstruction is i → Numbered code_kind bytes_of_instruction i
unfolding look instruction_codes padded instruction_of
numbered is One f = numbers 0x01 0 0 0 (omega arith) refl refl
numbered is (Flag k) f = numbers 0x02 k 0 0 (omega arith) refl refl
numbered is (Nand i j) f = numbers 0x03 i j 0 (omega arith) refl refl
numbered is (Reach i j w) f = numbers 0x04 i j w (omega arith) refl refl
numbered is (Later i d) f = numbers 0x05 i d 0 (omega arith) refl refl

-- the instructions still to come, after those before them
ahead : (is js : Code) → GoodCode (is ++ js) → Passes code_kind is js × Each (Numbered code_kind bytes_of_instruction) js
ahead is [] g = (tt, tt)
ahead is (i ∷ js) g =
    let h : length is < length (is ++ i ∷ js) = simp length-append (omega arith) in
    let f : FineInstruction is i = rw (take-append_seam, get_or-append_seam) at (g (length is) h) in
    let (passes, each) = ahead (is ++ i ∷ []) js (rw append_assoc g) in
    (((λ at. ap instruction_outcome (not_refused is at i f)), passes), (numbered is i f, each))

-- The code that is read
pub code_read : (code : Code) → 1 ≤ length code → GoodCode code → read_code (bytes_of_all bytes_of_instruction code) ≡ items code
code_read code some g =
    let (passes, each) = ahead [] code g in
    all_there code_kind bytes_of_instruction code some passes each
