-- What holds of accepted code, and of what loading keeps of it: each instruction is fine after those before it, and the program holds the instructions. Each
-- turn of reading adds an instruction that no test refuses.
use mathlib.Core.Path.{◌≡◌, refl}
use mathlib.Core.List.{List, [], ◌∷◌, ◌++◌}
use Prim.Native.Nat.{ℕ, ◌≤◌}
use lib.ListN.{length}
use lib.Seq.{take_at}
use Rattle.std.specs.Prelude.{Result, Ok, Err}
use Rattle.ground.specs.Buffers.{AllBytes}
use Rattle.ground.specs.declared.refusal.Refusal.{Refusal}
use Rattle.reading.specs.InTurn.{fine, AllRead, items, refused, bytes_of_all}
use Rattle.reading.proofs.InTurn.{all_back}
use Rattle.code.specs.declared.instruction.Instruction.{Instruction}
use Rattle.code.specs.Code.{Code, bytes_of_instruction}
use Rattle.code.specs.Loading.{check_instruction, code_counts, instruction_outcome, code_kind, read_code, program_with, program_of}
use Rattle.code.specs.declared.check.CodeCounts.{CodeCounts}
use Rattle.code.specs.declared.load.Program.{Program}
use Rattle.code.specs.Good.{GoodCode}
use Rattle.code.specs.Programs.{Sound, code_held, HasCode}
use Rattle.code.proofs.Counting.{good_none, good_more, good_instructions}
use Rattle.code.proofs.Instructions.{instruction_bytes}
use Rattle.code.proofs.Checking.{passed}

checked_fine : (j : Result CodeCounts Refusal) → instruction_outcome j ≡ fine → (d : CodeCounts) × (j ≡ Ok d)
checked_fine (Ok d) e = (d, refl)
checked_fine (Err r) e = cc

-- an instruction that is checked and fine keeps the code good
pub good_on : (is : Code) (at : ℕ) (i : Instruction) → GoodCode is → code_kind.check is at i ≡ fine → GoodCode (is ++ i ∷ [])
good_on is at i g j =
    let (d, next) = checked_fine (check_instruction (code_counts is) at i) j in
    good_more is i g (passed is at i d next).fine

-- Accepted code: no test refuses an instruction of it, its bytes are those of its instructions, and it has one at least
pub accepted_code : (bytes : List ℕ) (code : Code) → AllBytes bytes → read_code bytes ≡ items code
    → GoodCode code × (bytes ≡ bytes_of_all bytes_of_instruction code) × (1 ≤ length code)
accepted_code bytes code small e =
    all_back code_kind bytes_of_instruction GoodCode good_none good_on (λ n i j k known. instruction_bytes n known i j k) bytes code small e

-- A program's code is the code that it was made of, and sound where that is
pub code_lent : (code : Code) → code_held (program_with code) ≡ code
code_lent code = take_at code _ (length code) refl

pub sound_lent : (code : Code) → GoodCode code → 1 ≤ length code → Sound (code_held (program_with code))
sound_lent code good some = rw (code_lent code) (record { some = some; good = good })

-- What loading keeps is ready to be handed on
pub ready : (bytes : List ℕ) (p : Program) → AllBytes bytes → Ok p ≡ program_of (read_code bytes) → HasCode bytes p
ready bytes p small e = go (read_code bytes) refl e
  where
    go : (read : AllRead Instruction) → read_code bytes ≡ read → Ok p ≡ program_of read → HasCode bytes p
    go (items code) is own =
        let (good, own_bytes, some) = accepted_code bytes code small is in
        let with : p ≡ program_with code = cc in
        record {
          is = rw (with, code_lent code) is;
          many = rw with (good_instructions code good);
          sound = rw with (sound_lent code good some);
        }
    go (refused r) is own = cc

-- and where nothing is kept the code is refused
pub not_ready : (bytes : List ℕ) (r : Refusal) → Err r ≡ program_of (read_code bytes) → read_code bytes ≡ refused r
not_ready bytes r e = go (read_code bytes) e
  where
    go : (read : AllRead Instruction) → Err r ≡ program_of read → read ≡ refused r
    go (items code) own = cc
    go (refused s) own = cc
