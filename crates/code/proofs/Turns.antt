-- The walk over code turn by turn. `CodeTurn` says where it stands: the instructions read are good and counted, the array holds them, and the bytes
-- from here on, after these instructions, give what all the bytes give. Each way out of a turn is a law: one instruction more, the end, or a refusal.
use mathlib.Core.Path.{◌≡◌, refl, sym, ap}
use mathlib.Core.List.{List, [], ◌∷◌, ◌++◌}
use Prim.Native.Nat.{ℕ, ◌<◌}
use native.Mathlib.Omega.{arith}
use lib.ListN.{length, set, replicate}
use Rattle.std.specs.Prelude.{None, Some, Ok, Err}
use Rattle.ground.specs.Buffers.{AllBytes}
use Rattle.reading.specs.InTurn.{AllRead}
use Rattle.reading.specs.Items.{item_at}
use Rattle.ground.specs.Limits.{limits}
use Rattle.ground.proofs.Buffers.{over_more}
use Rattle.reading.specs.declared.item.Read.{Read}
use Rattle.reading.specs.declared.item.Table.{Table}
use Rattle.ground.specs.declared.refusal.Refusal.{Refusal}
use Rattle.reading.proofs.InTurn as in-turn
use Rattle.code.specs.declared.instruction.Instruction.{Instruction}
use Rattle.code.specs.declared.instruction.Instruction.TheVariants.{One}
use Rattle.code.specs.Code.{Code, instruction_of}
use Rattle.code.specs.Loading.{code_counts, check_instruction, instruction_outcome, code_kind, read_code, program_with, program_of, reaches_in, distance_in}
use Rattle.code.specs.declared.check.CodeCounts.{CodeCounts}
use Rattle.code.specs.Good.{CodeWithin}
use Rattle.code.proofs.Checking.{Passed, passed}

pub record CodeTurn (bytes : List ℕ) (instructions : Code) (counts : CodeCounts) (at : ℕ) : Type 0 where
  pub code : Code
  pub turn : in-turn.Turn code_kind bytes at code
  pub own : counts ≡ code_counts code
  pub within : CodeWithin counts
  pub array : instructions ≡ (program_with code).instructions

pub turn_first : (bytes : List ℕ) → (length bytes ≡ 0 → ⊥) → CodeTurn bytes (replicate limits.instructions One) (code_counts []) 0
unfolding code_counts reaches_in distance_in
turn_first bytes h =
    record {
      code = [];
      turn = in-turn.turn_first code_kind bytes h;
      own = refl;
      within = omega arith;
      array = refl;
    }

module _ (bytes : List ℕ) (instructions : Code) (counts : CodeCounts) (at : ℕ) (t : CodeTurn bytes instructions counts at) where
  pub turn_end : Ok None ≡ item_at Table.Code bytes at
      → Ok (record { instructions = instructions; count = counts.instructions }) ≡ program_of (read_code bytes)
  unfolding code_counts
  turn_end e = rw (← (in-turn.turn_end code_kind bytes at t.code t.turn e), t.own, t.array)

  pub turn_refused : (r : Refusal) → Err r ≡ item_at Table.Code bytes at → AllRead.refused r ≡ read_code bytes
  turn_refused r e = in-turn.turn_refused code_kind bytes at t.code t.turn r e

  module _ (read : Read) (here : Ok (Some read) ≡ item_at Table.Code bytes at) (instruction : Instruction)
      (own_instruction : instruction ≡ instruction_of read.code read.first read.second read.third) where
    pub turn_checked : (r : Refusal) → Err r ≡ check_instruction counts at instruction → AllRead.refused r ≡ read_code bytes
    turn_checked r e =
        in-turn.turn_checked code_kind bytes at t.code t.turn _ _ _ _ _ here instruction own_instruction r (ap instruction_outcome (rw t.own at e))

    module _ (d : CodeCounts) (e : Ok d ≡ check_instruction counts at instruction) where
      passes : Passed t.code instruction d
      passes = passed t.code at instruction d (sym (rw t.own at e))

      -- an instruction that is checked and not refused has room
      pub turn_room : counts.instructions < limits.instructions
      unfolding code_counts
      turn_room = rw t.own (omega (arith, passes.fine.instructions))

      pub turn_more : AllBytes bytes → CodeTurn bytes (set instructions counts.instructions instruction) d read.next
      unfolding code_counts
      turn_more small =
          let many : length t.code ≡ counts.instructions = rw t.own refl in
          record {
            code = t.code ++ instruction ∷ [];
            turn = in-turn.turn_more code_kind bytes at t.code t.turn _ _ _ _ _ here instruction own_instruction
                (ap instruction_outcome (rw t.own at e)) (in-turn.forward Table.Code bytes at _ _ _ _ _ small here);
            own = passes.counted;
            within = passes.within;
            array = rw t.array (over_more t.code (replicate limits.instructions One) counts.instructions instruction many (omega (arith, turn_room)));
          }
