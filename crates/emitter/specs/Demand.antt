-- The third demand: for each accepted rule, given an output buffer that holds the code, the code is written and the
-- sequencer accepts it; run over any clip of 1 to 65,535 frames, last to first, into a buffer of at least that length,
-- it writes 1 for a frame exactly when the clip from that frame to its end satisfies the rule, otherwise 0.
use Rattle.std.specs.Prelude.{◌≡◌, List, ℕ, ◌≤◌, ◌<◌, length, get_or, take, drop}
use Rattle.std.specs.Prelude.{Result, Ok}
use Rattle.ground.specs.Buffers.{AllBytes}
use Rattle.ground.specs.Frames.{Clip}
use Rattle.ground.specs.Limits.{limits}
use Rattle.ground.specs.declared.refusal.Refusal.{Refusal}
use Rattle.rules.specs.Formula.{Formula}
use Rattle.rules.specs.Loading.{Items, accepted, read_rule}
use Rattle.rules.specs.Meaning.{Holds}
use Rattle.code.specs.Loading.{read_code, code_of, loaded_code_of}
use Rattle.sequencer.specs.Running.{ran_of, buffer_after}
use Rattle.emitter.specs.Emit.{EmitSays}
use Rattle.emitter.specs.Translation.{code_bytes}

-- What a caller of `run` knows of code's bytes, a clip, the output buffer before, the answer, and the buffer after: its
-- contract
abbrev pub RunSays : List ℕ → Clip → List ℕ → Result (Unit {0}) Refusal → List ℕ → Type 0
RunSays code clip before answer after =
    (answer ≡ ran_of (read_code code) clip before) ×
    (after ≡ buffer_after answer (code_of (read_code code)) clip before)

-- A buffer after a run over a clip, by the paper's meaning of the rule: 1 for a frame if the clip from it to its end
-- satisfies the rule, 0 if it does not, and behind the clip's frames what it held before
pub record Verdicts (f : Formula) (clip : Clip) (before after : List ℕ) : Type 0 where
  pub satisfied : (i : ℕ) → i < length clip → Holds f (drop i clip) → get_or after i 0 ≡ 1
  pub broken : (i : ℕ) → i < length clip → (Holds f (drop i clip) → ⊥) → get_or after i 0 ≡ 0
  pub rest : drop (length clip) after ≡ drop (length clip) before
  pub same : length after ≡ length before

-- Code that meets the demand for a rule: it is accepted, and each run of it is done and leaves the verdicts
pub record Meets (f : Formula) (code : List ℕ) : Type 0 where
  pub loads : (n : ℕ) × (loaded_code_of (read_code code) ≡ Ok n)
  pub runs : (clip before : List ℕ) → 1 ≤ length clip → length clip ≤ limits.frames → length clip ≤ length before
      → (answer : Result (Unit {0}) Refusal) (after : List ℕ) → RunSays code clip before answer after
      → (answer ≡ Ok tt) × Verdicts f clip before after

-- The demand: of an accepted rule and a buffer that holds its code, `emit` answers a length, and so many bytes of the
-- buffer are code that meets the demand for the rule's formula
abbrev pub DemandThree : Type 0
DemandThree =
    (rule before : List ℕ) (is : Items) (f : Formula) → AllBytes rule → read_rule rule ≡ accepted is f
    → length (code_bytes f) ≤ length before → (answer : Result ℕ Refusal) (after : List ℕ)
    → EmitSays rule before answer after → (n : ℕ) × (answer ≡ Ok n) × Meets f (take n after)
