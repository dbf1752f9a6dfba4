-- The run. Document 01: "Run: code, 13, 16; the run writes one byte a frame", "13 clip empty or over 65,535 frames",
-- "16 output buffer shorter than the answer", "starts at the buffer's first byte, and the bytes behind the answer
-- stay". The byte of a frame is the output after the clip from that frame to its end.
use Rattle.std.specs.Prelude.{Bool, cond, ◌||◌, List, [], ◌∷◌, ℕ, ltb, eqb, length}
use Rattle.std.specs.Prelude.{Result, Ok, Err}
use Rattle.ground.specs.Buffers.{byte_of, too_short, over}
use Rattle.ground.specs.Frames.{Clip}
use Rattle.reading.specs.InTurn.{AllRead, items, refused}
use Rattle.ground.specs.Limits.{limits}
use Rattle.ground.specs.declared.refusal.Refusal.{Refusal}
use Rattle.sequencer.specs.Bits.{output}
use Rattle.code.specs.declared.instruction.Instruction.{Instruction}
use Rattle.code.specs.Code.{Code}

-- One byte for each frame
unfoldable pub verdicts : Code → Clip → List ℕ
verdicts code [] = []
verdicts code (x ∷ c) = byte_of (output code (x ∷ c)) ∷ verdicts code c

-- A clip that is empty or over 65,535 frames
unfoldable pub bad_clip : ℕ → Bool
bad_clip frames = eqb frames 0 || ltb limits.frames frames

-- What a run answers
abbrev pub ran_of : AllRead Instruction → Clip → List ℕ → Result (Unit {0}) Refusal
ran_of (items code) clip out =
    cond (bad_clip (length clip)) (Err Refusal.BadClip)
    (cond (too_short out clip) (Err Refusal.ShortOutput) (Ok tt))
ran_of (refused r) clip out = Err r

-- What a run leaves in the output buffer, by its answer
abbrev pub buffer_after : Result (Unit {0}) Refusal → Code → Clip → List ℕ → List ℕ
buffer_after (Ok done) code clip out = over (verdicts code clip) out
buffer_after (Err r) code clip out = out
