-- Running code over a clip, for C: the word of the answer and what it tells, the entry's statement, and its part of the
-- first demand. Document 01: "Run: code, 13, 16; the run writes one byte a frame". The word of a run that is done is 0.
use Rattle.std.specs.Prelude.{◌≡◌, Result, Ok, Err, List, ℕ}
use Rattle.ground.specs.Buffers.{AllBytes}
use Rattle.ground.specs.Frames.{Clip}
use Rattle.ground.specs.declared.refusal.Refusal.{Refusal}
use Rattle.code.specs.Loading.{read_code, code_of}
use Rattle.sequencer.specs.Running.{ran_of, buffer_after}
use Rattle.thistlecart.specs.Accessors.{refusal_told, TellsRefusal, TellsAndKeeps}
use Rattle.thistlecart.specs.Words.{refusal_word}

-- The word of what a run answers
abbrev pub ran_word : Result (Unit {0}) Refusal → ℕ
ran_word (Ok done) = 0
ran_word (Err r) = refusal_word r

-- A word tells what a run answers
abbrev pub TellsRan : Result (Unit {0}) Refusal → ℕ → Type 0
TellsRan (Ok done) word = refusal_told word ≡ 0
TellsRan (Err r) word = TellsRefusal r word

-- What `thistlecart_run` says
pub record RunEntry (code : List ℕ) (clip : Clip) (out : List ℕ) (word : ℕ) (out' : List ℕ) : Type 0 where
  -- the word is that of what the run answers
  pub own_word : word ≡ ran_word (ran_of (read_code code) clip out)
  -- the buffer is what that answer leaves there
  pub own_out : out' ≡ buffer_after (ran_of (read_code code) clip out) (code_of (read_code code)) clip out

-- Its part of the first demand: the word tells what the run answers, and a refusal leaves the buffer
abbrev pub RunDemand : Type 0
RunDemand =
    (code : List ℕ) (clip : Clip) (out : List ℕ) → AllBytes code → (word : ℕ) (out' : List ℕ)
    → RunEntry code clip out word out' → TellsAndKeeps (TellsRan (ran_of (read_code code) clip out) word) out word out'
