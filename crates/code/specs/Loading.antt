-- Reading code: the instructions in turn, each checked as it comes. Document 01: "Code is accepted with 1 to 320
-- instructions, at most 16 REACH, LATER distances of 1 to 255 adding up to at most 256, w at most 255, operands that
-- are earlier instructions", refused by "5 flag above 7", "10 operand not an earlier instruction", "11 w > 255, d = 0
-- or d > 255" and "12 321st instruction, 17th REACH, or distances above 256", in this order.
use Rattle.std.specs.Prelude.{Bool, false, cond, ◌||◌, List, [], ◌∷◌, ℕ, ◌+◌, ◌*◌, eqb, leb, ltb, length, replicate}
use Rattle.std.specs.Prelude.{Result, Ok, Err}
use Rattle.reading.specs.InTurn.{Outcome, fine, bad, Kind, AllRead, items, refused, read_all}
use Rattle.ground.specs.Limits.{limits}
use Rattle.ground.specs.Buffers.{over}
use Rattle.reading.specs.declared.item.Table.{Table}
use Rattle.ground.specs.declared.refusal.Refusal.{Refusal}
use Rattle.code.specs.declared.instruction.Instruction.{Instruction}
use Rattle.code.specs.declared.instruction.Instruction.TheVariants.{One, Flag, Nand, Reach, Later}
use Rattle.code.specs.Code.{Code, instruction_of}
use Rattle.code.specs.declared.check.CodeCounts.{CodeCounts}
use Rattle.code.specs.declared.load.Program.{Program}

-- 5: a flag above 7
abbrev pub flag_too_large : Instruction → Bool
flag_too_large One = false
flag_too_large (Flag k) = ltb limits.flag k
flag_too_large (Nand i j) = false
flag_too_large (Reach i j w) = false
flag_too_large (Later i d) = false

-- 10: an operand that is not an earlier instruction, where so many are earlier
abbrev pub not_earlier : ℕ → Instruction → Bool
not_earlier n One = false
not_earlier n (Flag k) = false
not_earlier n (Nand i j) = leb n i || leb n j
not_earlier n (Reach i j w) = leb n i || leb n j
not_earlier n (Later i d) = leb n i

-- 11: w > 255, d = 0 or d > 255
abbrev pub bad_width : Instruction → Bool
bad_width One = false
bad_width (Flag k) = false
bad_width (Nand i j) = false
bad_width (Reach i j w) = ltb limits.width w
bad_width (Later i d) = eqb d 0 || ltb limits.distance d

-- How many counters an instruction takes: REACH one
abbrev pub reach_of : Instruction → ℕ
reach_of One = 0
reach_of (Flag k) = 0
reach_of (Nand i j) = 0
reach_of (Reach i j w) = 1
reach_of (Later i d) = 0

-- How many delay bits an instruction takes: LATER its distance
abbrev pub distance_of : Instruction → ℕ
distance_of One = 0
distance_of (Flag k) = 0
distance_of (Nand i j) = 0
distance_of (Reach i j w) = 0
distance_of (Later i d) = d

-- How many instructions are REACH
unfoldable pub reaches_in : Code → ℕ
reaches_in [] = 0
reaches_in (i ∷ is) = reach_of i + reaches_in is

-- What the distances add up to
unfoldable pub distance_in : Code → ℕ
distance_in [] = 0
distance_in (i ∷ is) = distance_of i + distance_in is

-- What is counted of the instructions read so far
unfoldable pub code_counts : Code → CodeCounts
code_counts is = record { instructions = length is; reaches = reaches_in is; distance = distance_in is }

-- The counts with one instruction more
unfoldable pub code_counted : CodeCounts → Instruction → CodeCounts
code_counted c i =
    record {
      instructions = c.instructions + 1;
      reaches = c.reaches + reach_of i;
      distance = c.distance + distance_of i;
    }

-- 12: 321st instruction, 17th REACH, or distances above 256
unfoldable pub code_too_large : CodeCounts → Bool
code_too_large c =
    ltb limits.instructions c.instructions
    || (ltb limits.counters c.reaches || ltb limits.delays c.distance)

-- The instruction at a place, after instructions that are counted: 5, 10, 11, 12 in turn
unfoldable pub check_instruction : CodeCounts → ℕ → Instruction → Result CodeCounts Refusal
check_instruction c at i =
    cond (flag_too_large i) (Err (Refusal.FlagTooLarge at))
    (cond (not_earlier c.instructions i) (Err (Refusal.NotEarlier at))
    (cond (bad_width i) (Err (Refusal.BadWidth at))
    (cond (code_too_large (code_counted c i)) (Err (Refusal.CodeTooLarge at))
    (Ok (code_counted c i)))))

-- What checking an instruction says
abbrev pub instruction_outcome : Result CodeCounts Refusal → Outcome
instruction_outcome (Ok c) = fine
instruction_outcome (Err r) = bad r

-- What code is among what can be read in turn
abbrev pub code_kind : Kind Instruction
code_kind =
    record {
      table = Table.Code;
      make = instruction_of;
      check = λ is at i. instruction_outcome (check_instruction (code_counts is) at i);
    }

-- What reading code gives: its instructions, or the refusal
abbrev pub read_code : List ℕ → AllRead Instruction
read_code bytes = read_all code_kind bytes

-- A bound on the place of a refusal: for each instruction a code byte and three numbers of two bytes
abbrev pub most_code_place : ℕ
most_code_place = 7 * limits.instructions

-- What loading answers: how many instructions, or the refusal
abbrev pub loaded_code_of : AllRead Instruction → Result ℕ Refusal
loaded_code_of (items code) = Ok (length code)
loaded_code_of (refused r) = Err r

-- The instructions of accepted code
abbrev pub code_of : AllRead Instruction → Code
code_of (items code) = code
code_of (refused r) = []

-- Code as loading keeps it: in an array of the longest code, with ONE behind, and how many instructions it is
abbrev pub program_with : Code → Program
program_with code = record { instructions = over code (replicate limits.instructions One); count = length code }

-- What loading keeps of code: its instructions, or the refusal
abbrev pub program_of : AllRead Instruction → Result Program Refusal
program_of (items code) = Ok (program_with code)
program_of (refused r) = Err r
