-- Running, for C. The place of a refusal is inside the instructions that code may have, so every answer fits into the word, and the accessors read it back; an
-- answer that leaves the buffer changed is no refusal.
use mathlib.Core.Path.{◌≡◌, refl, ◌∙◌}
use mathlib.Core.List.{List}
use Prim.Native.Nat.{ℕ}
use native.Mathlib.Omega.{arith}
use lib.ListN.{length}
use Rattle.ground.specs.Buffers.{AllBytes, too_short}
use Rattle.ground.specs.Frames.{Clip}
use Rattle.ground.specs.declared.refusal.Refusal.{Refusal}
use Rattle.ground.proofs.Choices.{both_ways}
use Rattle.reading.specs.InTurn.{AllRead}
use Rattle.code.specs.declared.instruction.Instruction.{Instruction}
use Rattle.code.specs.Code.{Code}
use Rattle.code.specs.Loading.{read_code, code_of}
use Rattle.code.proofs.Places.{code_place}
use Rattle.sequencer.specs.Running.{bad_clip, ran_of, buffer_after}
use Rattle.std.proofs.Common.{Result, Ok, Err}
use Rattle.thistlecart.specs.Accessors.{IsRefused}
use Rattle.thistlecart.specs.Inner.Run.{RanFits}
use Rattle.thistlecart.specs.Run.{ran_word, TellsRan, RunDemand}
use Rattle.thistlecart.proofs.Accessors.{refusal_told_lem}

-- What a run answers fits
pub ran_fits : (code : List ℕ) (clip : Clip) (out : List ℕ) → AllBytes code → RanFits (ran_of (read_code code) clip out)
ran_fits code clip out small = go (read_code code) refl
  where
    go : (read : AllRead Instruction) → read_code code ≡ read → RanFits (ran_of read clip out)
    go (AllRead.items is) e =
        both_ways RanFits (bad_clip (length clip)) {x = Err Refusal.BadClip} (omega arith)
        (both_ways RanFits (too_short out clip) {x = Err Refusal.ShortOutput} (omega arith) tt)
    go (AllRead.refused r) e = omega (arith, code_place code r small e)

-- Its word tells it
pub ran_told : (a : Result (Unit {0}) Refusal) → RanFits a → TellsRan a (ran_word a)
ran_told (Ok done) fits = omega arith
ran_told (Err r) fits = refusal_told_lem r fits

-- a refusal leaves the buffer as it was
run_stays : (a : Result (Unit {0}) Refusal) (word : ℕ) (code : Code) (clip : Clip) (out : List ℕ) → TellsRan a word → IsRefused word
    → buffer_after a code clip out ≡ out
run_stays (Ok done) word code clip out told no_answer = absurd (no_answer told)
run_stays (Err r) word code clip out told no_answer = refl

-- Its part of the first demand
pub run_demand : RunDemand
run_demand code clip out small word out' says =
    let answer = ran_of (read_code code) clip out in
    let told : TellsRan answer word = rw says.own_word (ran_told answer (ran_fits code clip out small)) in
    record { tells = told; keeps = λ no_answer. says.own_out ∙ run_stays answer word (code_of (read_code code)) clip out told no_answer }
