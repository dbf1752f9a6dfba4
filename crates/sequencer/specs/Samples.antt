-- Samples of runs: one table, and what it is for a row to be right. Document 01: "* `12 00 12 01 30 01 03` over clip
-- `00 01 02` gives `01 01 00`", by the code that its table of emitted code gives for that rule; and the refusals of a
-- run, in their order.
use Rattle.std.specs.Prelude.{◌≡◌, List, [], ◌∷◌, ℕ, Result, Ok, Err}
use Rattle.ground.specs.Frames.{Clip}
use Rattle.ground.specs.declared.refusal.Refusal.{Refusal}
use Rattle.code.specs.Loading.{read_code, code_of}
use Rattle.code.specs.Samples.{sample_code}
use Rattle.sequencer.specs.Running.{ran_of, buffer_after}

-- A row: code, a clip, an output buffer, the run's answer and what the buffer then holds
pub data Sample : Type 0 where
  runs : List ℕ → Clip → List ℕ → Result (Unit {0}) Refusal → List ℕ → Sample

-- A row is right by the definitions that the contracts cite
abbrev pub RanRight : Sample → Type 0
RanRight (runs code clip out ran after) =
    (ran_of (read_code code) clip out ≡ ran) × (buffer_after ran (code_of (read_code code)) clip out ≡ after)

-- The clip of document 01's sample
abbrev pub sample_clip : Clip
sample_clip = 0x00 ∷ 0x01 ∷ 0x02 ∷ []

-- The table
unfoldable pub samples : List Sample
samples =
    runs sample_code sample_clip (0xff ∷ 0xff ∷ 0xff ∷ []) (Ok tt) (0x01 ∷ 0x01 ∷ 0x00 ∷ [])
    ∷ runs sample_code sample_clip (0xff ∷ 0xff ∷ 0xff ∷ 0xff ∷ []) (Ok tt) (0x01 ∷ 0x01 ∷ 0x00 ∷ 0xff ∷ [])
    ∷ runs sample_code [] [] (Err Refusal.BadClip) []
    ∷ runs sample_code sample_clip (0xff ∷ 0xff ∷ []) (Err Refusal.ShortOutput) (0xff ∷ 0xff ∷ [])
    ∷ runs [] [] [] (Err Refusal.Empty) []
    ∷ []
