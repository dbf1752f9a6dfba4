-- Samples of emitted code: one table, and what it is for a row to be right. Document 01: "* Rule `12 00 32 02 04` emits
-- `02 00 01 04 01 00 02 05 02 02`" and "* `12 00 12 01 30 01 03` over clip `00 01 02` gives `01 01 00`"; each item of
-- its table of emitted code, with a = 0 and with a > 0; and refusals of the rule and 16.
use Rattle.std.specs.Prelude.{◌≡◌, List, [], ◌∷◌, ◌++◌, ℕ, length, replicate}
use Rattle.std.specs.Prelude.{Result, Ok, Err}
use Rattle.ground.specs.Frames.{Clip}
use Rattle.ground.specs.declared.refusal.Refusal.{Refusal}
use Rattle.rules.specs.Loading.{read_rule}
use Rattle.code.specs.Loading.{read_code, code_of}
use Rattle.sequencer.specs.Running.{ran_of, buffer_after}
use Rattle.emitter.specs.Emit.{bytes_for, emitted_of, out_after}

-- A row: a rule and its code; a rule, a buffer, the answer and what the buffer then holds; or a rule, a clip and what a
-- run of its code writes for it
pub data Sample : Type 0 where
  emits : List ℕ → List ℕ → Sample
  answers : List ℕ → List ℕ → Result ℕ Refusal → List ℕ → Sample
  each_frame : List ℕ → Clip → List ℕ → Sample

-- So many bytes ff, a buffer before it is written
abbrev untouched : ℕ → List ℕ
untouched n = replicate n 0xff

-- A row is right by the definitions that the contracts cite
abbrev pub EmittedRight : Sample → Type 0
EmittedRight (emits rule code) = bytes_for (read_rule rule) ≡ code
EmittedRight (answers rule out answer after) =
    (emitted_of (read_rule rule) out ≡ answer) × (out_after answer (read_rule rule) out ≡ after)
EmittedRight (each_frame rule clip verdicts) =
    let read = read_code (bytes_for (read_rule rule)) in
    let out = untouched (length clip) in
    (ran_of read clip out ≡ Ok tt) × (buffer_after (Ok tt) (code_of read) clip out ≡ verdicts)

-- The rule of document 01's first sample
abbrev eventually : List ℕ
eventually = 0x12 ∷ 0x00 ∷ 0x32 ∷ 0x02 ∷ 0x04 ∷ []

-- Its code
abbrev eventually_code : List ℕ
eventually_code = 0x02 ∷ 0x00 ∷ 0x01 ∷ 0x04 ∷ 0x01 ∷ 0x00 ∷ 0x02 ∷ 0x05 ∷ 0x02 ∷ 0x02 ∷ []

-- The rule of its second
abbrev until : List ℕ
until = 0x12 ∷ 0x00 ∷ 0x12 ∷ 0x01 ∷ 0x30 ∷ 0x01 ∷ 0x03 ∷ []

-- Flags 0 and 1, with an item behind them
abbrev of_flags : List ℕ → List ℕ
of_flags item = 0x12 ∷ 0x00 ∷ 0x12 ∷ 0x01 ∷ item

-- The code of flags 0 and 1, with an item's behind it
abbrev flags_code : List ℕ → List ℕ
flags_code code = 0x02 ∷ 0x00 ∷ 0x02 ∷ 0x01 ∷ code

-- The table
unfoldable pub samples : List Sample
samples =
    emits eventually eventually_code
    ∷ emits until (0x02 ∷ 0x00 ∷ 0x02 ∷ 0x01 ∷ 0x04 ∷ 0x00 ∷ 0x01 ∷ 0x02 ∷ 0x05 ∷ 0x02 ∷ 0x01 ∷ [])
    ∷ each_frame until (0x00 ∷ 0x01 ∷ 0x02 ∷ []) (0x01 ∷ 0x01 ∷ 0x00 ∷ [])
    ∷ emits (0x10 ∷ []) (0x01 ∷ [])
    ∷ emits (0x11 ∷ []) (0x01 ∷ 0x03 ∷ 0x00 ∷ 0x00 ∷ [])
    ∷ emits (0x12 ∷ 0x07 ∷ []) (0x02 ∷ 0x07 ∷ [])
    ∷ emits (0x12 ∷ 0x00 ∷ 0x20 ∷ []) (0x02 ∷ 0x00 ∷ 0x03 ∷ 0x00 ∷ 0x00 ∷ [])
    ∷ emits (of_flags (0x21 ∷ [])) (flags_code (0x03 ∷ 0x00 ∷ 0x01 ∷ 0x03 ∷ 0x02 ∷ 0x02 ∷ []))
    ∷ emits (of_flags (0x22 ∷ []))
    (flags_code (0x03 ∷ 0x00 ∷ 0x00 ∷ 0x03 ∷ 0x01 ∷ 0x01 ∷ 0x03 ∷ 0x02 ∷ 0x03 ∷ []))
    ∷ emits (of_flags (0x30 ∷ 0x00 ∷ 0x03 ∷ [])) (flags_code (0x04 ∷ 0x00 ∷ 0x01 ∷ 0x03 ∷ []))
    ∷ emits (of_flags (0x31 ∷ 0x00 ∷ 0x03 ∷ []))
    (flags_code (0x03 ∷ 0x00 ∷ 0x00 ∷ 0x03 ∷ 0x01 ∷ 0x01 ∷ 0x04 ∷ 0x02 ∷ 0x03 ∷ 0x03 ∷ 0x03 ∷ 0x04 ∷ 0x04 ∷ []))
    ∷ emits (of_flags (0x31 ∷ 0x01 ∷ 0x03 ∷ []))
    (flags_code (0x03 ∷ 0x00 ∷ 0x00 ∷ 0x03 ∷ 0x01 ∷ 0x01 ∷ 0x04 ∷ 0x02 ∷ 0x03 ∷ 0x02 ∷ 0x05 ∷ 0x04 ∷ 0x01
    ∷ 0x03 ∷ 0x05 ∷ 0x05 ∷ []))
    ∷ emits (0x12 ∷ 0x00 ∷ 0x32 ∷ 0x00 ∷ 0x04 ∷ []) (0x02 ∷ 0x00 ∷ 0x01 ∷ 0x04 ∷ 0x01 ∷ 0x00 ∷ 0x04 ∷ [])
    ∷ emits (0x12 ∷ 0x00 ∷ 0x33 ∷ 0x00 ∷ 0x04 ∷ [])
    (0x02 ∷ 0x00 ∷ 0x01 ∷ 0x03 ∷ 0x00 ∷ 0x00 ∷ 0x04 ∷ 0x01 ∷ 0x02 ∷ 0x04 ∷ 0x03 ∷ 0x03 ∷ 0x03 ∷ [])
    ∷ emits (0x12 ∷ 0x00 ∷ 0x33 ∷ 0x02 ∷ 0x04 ∷ [])
    (0x02 ∷ 0x00 ∷ 0x01 ∷ 0x03 ∷ 0x00 ∷ 0x00 ∷ 0x04 ∷ 0x01 ∷ 0x02 ∷ 0x02 ∷ 0x05 ∷ 0x03 ∷ 0x02 ∷ 0x03 ∷ 0x04 ∷ 0x04 ∷ [])
    ∷ answers eventually (untouched 11) (Ok 10) (eventually_code ++ untouched 1)
    ∷ answers eventually (untouched 9) (Err Refusal.ShortOutput) (untouched 9)
    ∷ answers (0x12 ∷ 0x08 ∷ []) [] (Err (Refusal.FlagTooLarge 0)) []
    ∷ answers [] [] (Err Refusal.Empty) []
    ∷ []
