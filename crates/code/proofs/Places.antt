-- How far a refusal of code can lie: its place is that of an instruction behind good code, which is short.
use mathlib.Core.Path.{◌≡◌, refl}
use mathlib.Core.List.{List}
use Prim.Native.Nat.{ℕ, ◌≤◌}
use native.Mathlib.Omega.{arith}
use lib.ListN.{length}
use Rattle.std.specs.Prelude.{Result, Err}
use Rattle.ground.specs.Buffers.{AllBytes}
use Rattle.reading.specs.InTurn.{refused, bytes_of_all}
use Rattle.ground.specs.Refusals.{place_of}
use Rattle.ground.specs.declared.refusal.Refusal.{Refusal}
use Rattle.ground.proofs.Choices.{both_ways}
use Rattle.reading.proofs.InTurn.{Placed, all_place}
use Rattle.code.specs.declared.instruction.Instruction.{Instruction}
use Rattle.code.specs.Code.{Code, bytes_of_instruction}
use Rattle.code.specs.Good.{GoodCode}
use Rattle.code.specs.Loading.{flag_too_large, not_earlier, bad_width, code_too_large, check_instruction, code_counts, code_counted, instruction_outcome}
use Rattle.code.specs.Loading.{code_kind, read_code, most_code_place}
use Rattle.code.specs.declared.check.CodeCounts.{CodeCounts}
use Rattle.code.proofs.Accepted.{good_on}
use Rattle.code.proofs.Counting.{good_none, good_instructions, good_counters}
use Rattle.code.proofs.Instructions.{instruction_bytes, code_length}

-- each refusal of an instruction has the instruction's place
check_placed : (is : Code) (at : ℕ) (i : Instruction) → Placed at (code_kind.check is at i)
unfolding check_instruction
check_placed is at i =
    let P : Result CodeCounts Refusal → Type 0 = λ j. Placed at (instruction_outcome j) in
    both_ways P (flag_too_large i) {x = Err (Refusal.FlagTooLarge at)} refl
    (both_ways P (not_earlier (code_counts is).instructions i) {x = Err (Refusal.NotEarlier at)} refl
    (both_ways P (bad_width i) {x = Err (Refusal.BadWidth at)} refl
    (both_ways P (code_too_large (code_counted (code_counts is) i)) {x = Err (Refusal.CodeTooLarge at)} refl tt)))

good_short : (code : Code) → GoodCode code → length (bytes_of_all bytes_of_instruction code) ≤ most_code_place
good_short code g = omega (arith, code_length code, good_instructions code g, good_counters code g)

pub code_place : (bytes : List ℕ) (r : Refusal) → AllBytes bytes → read_code bytes ≡ refused r → place_of r ≤ most_code_place
code_place bytes r small e =
    all_place code_kind bytes_of_instruction GoodCode good_none good_on
    (λ n i j k known. instruction_bytes n known i j k) most_code_place good_short check_placed bytes r small e
