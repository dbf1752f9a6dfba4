-- The search, for C: the word of the answer and what it tells, the entry's statement, and its part of the first demand.
-- Document 01: "An answer gives met or not, the length (0 if not) and the number of states"; "buffers stay as found,
-- save for 15"; "The table is all zero after every answer and after refusal 15". The word has met in bit 8, the length
-- in bits 16 to 31 and the states in bits 32 and up.
use Rattle.std.specs.Prelude.{◌≡◌, Option, Some, None, Result, Ok, Err, List, ◌⊎◌, ℕ, ◌+◌, ◌*◌, length, replicate}
use Rattle.ground.specs.Buffers.{AllBytes}
use Rattle.ground.specs.Refusals.{number_of}
use Rattle.ground.specs.declared.refusal.Refusal.{Refusal}
use Rattle.rules.specs.Loading.{read_rule}
use Rattle.finder.specs.Search.{SearchSays}
use Rattle.finder.specs.declared.search.Found.{Found}
use Rattle.thistlecart.specs.Accessors.{refusal_told, met_told, length_told, states_told, TellsRefusal, IsRefused}
use Rattle.thistlecart.specs.Words.{bit8, bit16, bit32, refusal_word}

-- The word of an answer: met and the length, if a clip is found, and the states
abbrev pub answer_word : Option ℕ → ℕ → ℕ
answer_word (Some length) states = bit8 + length * bit16 + states * bit32
answer_word None states = states * bit32

-- The word of what the search answers
abbrev pub found_word : Result Found Refusal → ℕ
found_word (Ok found) = answer_word found.length found.states
found_word (Err r) = refusal_word r

-- A word tells met and the length, or not met and the length 0
abbrev pub TellsLength : Option ℕ → ℕ → Type 0
TellsLength (Some length) word = (met_told word ≡ 1) × (length_told word ≡ length)
TellsLength None word = (met_told word ≡ 0) × (length_told word ≡ 0)

-- A word tells what the search answers: met or not, the length, 0 if not, and the states
abbrev pub TellsFound : Result Found Refusal → ℕ → Type 0
TellsFound (Ok found) word =
    (refusal_told word ≡ 0) × TellsLength found.length word × (states_told word ≡ found.states)
TellsFound (Err r) word = TellsRefusal r word

-- What `thistlecart_search` says
pub record SearchEntry (rule table witness : List ℕ) (word : ℕ) (table' witness' : List ℕ) : Type 0 where
  -- an answer
  pub found : Result Found Refusal
  -- the search says it, and leaves the two buffers so
  pub says : SearchSays (read_rule rule) table witness found table' witness'
  -- the word is that of the answer
  pub own_word : word ≡ found_word found

-- What the first demand asks of a search
pub record SearchTellsAndKeeps (rule table witness : List ℕ) (word : ℕ) (table' witness' : List ℕ) : Type 0 where
  -- an answer
  pub found : Result Found Refusal
  -- the search says it, and leaves the two buffers so
  pub says : SearchSays (read_rule rule) table witness found table' witness'
  -- the word tells the answer
  pub tells : TellsFound found word
  -- a refusal leaves the witness buffer as it was
  pub keeps_witness : IsRefused word → witness' ≡ witness
  -- a refusal leaves the table as it was, or it is 15 and the table is all zero
  pub keeps_table : IsRefused word
      → (table' ≡ table) ⊎ ((refusal_told word ≡ number_of Refusal.NoRoom) × (table' ≡ replicate (length table) 0))

-- Its part of the first demand
abbrev pub SearchDemand : Type 0
SearchDemand =
    (rule table witness : List ℕ) → AllBytes rule → (word : ℕ) (table' witness' : List ℕ)
    → SearchEntry rule table witness word table' witness' → SearchTellsAndKeeps rule table witness word table' witness'
