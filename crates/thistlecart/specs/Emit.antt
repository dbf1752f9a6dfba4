-- Emitting a rule's code, for C: the word of the answer and what it tells, the entry's statement, and its part of the
-- first demand. Document 01: "Emit: rule, 16"; "An entry that writes an answer starts at the buffer's first byte, and
-- the bytes behind the answer stay; emitter and makers also give its length". The word has it in bits 8 and up.
use Rattle.std.specs.Prelude.{◌≡◌, Result, Ok, Err, List, ℕ, ◌*◌}
use Rattle.ground.specs.Buffers.{AllBytes}
use Rattle.ground.specs.declared.refusal.Refusal.{Refusal}
use Rattle.rules.specs.Loading.{read_rule}
use Rattle.emitter.specs.Emit.{emitted_of, out_after}
use Rattle.thistlecart.specs.Accessors.{refusal_told, length_told, TellsRefusal, TellsAndKeeps}
use Rattle.thistlecart.specs.Words.{bit8, refusal_word}

-- The word of what emitting answers
abbrev pub emitted_word : Result ℕ Refusal → ℕ
emitted_word (Ok length) = length * bit8
emitted_word (Err r) = refusal_word r

-- A word tells what emitting answers
abbrev pub TellsEmitted : Result ℕ Refusal → ℕ → Type 0
TellsEmitted (Ok length) word = (refusal_told word ≡ 0) × (length_told word ≡ length)
TellsEmitted (Err r) word = TellsRefusal r word

-- What `thistlecart_emit` says
pub record EmitEntry (rule out : List ℕ) (word : ℕ) (out' : List ℕ) : Type 0 where
  -- the word is that of what emitting answers
  pub own_word : word ≡ emitted_word (emitted_of (read_rule rule) out)
  -- the buffer is what that answer leaves there
  pub own_out : out' ≡ out_after (emitted_of (read_rule rule) out) (read_rule rule) out

-- Its part of the first demand: the word tells what emitting answers, and a refusal leaves the buffer
abbrev pub EmitDemand : Type 0
EmitDemand =
    (rule out : List ℕ) → AllBytes rule → (word : ℕ) (out' : List ℕ) → EmitEntry rule out word out'
    → TellsAndKeeps (TellsEmitted (emitted_of (read_rule rule) out) word) out word out'
