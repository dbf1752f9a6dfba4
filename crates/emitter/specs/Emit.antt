-- What the emitter answers and writes. Document 01: "Emit: rule, 16", "16 output buffer shorter than the answer", "An
-- entry that writes an answer starts at the buffer's first byte, and the bytes behind the answer stay; emitter and
-- makers also give its length."
use Rattle.std.specs.Prelude.{cond, List, [], ◌≡◌, ℕ, length, Result, Ok, Err}
use Rattle.ground.specs.Buffers.{too_short, over}
use Rattle.ground.specs.declared.refusal.Refusal.{Refusal}
use Rattle.rules.specs.Loading.{Reading, accepted, refused, read_rule}
use Rattle.emitter.specs.Translation.{code_bytes}

-- The bytes of the code of a rule that was read; a refused one has none
abbrev pub bytes_for : Reading → List ℕ
bytes_for (accepted is f) = code_bytes f
bytes_for (refused r) = []

-- What emitting answers: the length of the code, or the refusal
abbrev pub emitted_of : Reading → List ℕ → Result ℕ Refusal
emitted_of (accepted is f) out =
    cond (too_short out (code_bytes f)) (Err Refusal.ShortOutput) (Ok (length (code_bytes f)))
emitted_of (refused r) out = Err r

-- What emitting leaves in the output buffer, by its answer
abbrev pub out_after : Result ℕ Refusal → Reading → List ℕ → List ℕ
out_after (Ok n) read out = over (bytes_for read) out
out_after (Err r) read out = out

-- What `emit` says of a rule's bytes, the output buffer before, the answer, and the buffer after
abbrev pub EmitSays : List ℕ → List ℕ → Result ℕ Refusal → List ℕ → Type 0
EmitSays rule before answer after =
    (answer ≡ emitted_of (read_rule rule) before) × (after ≡ out_after answer (read_rule rule) before)
