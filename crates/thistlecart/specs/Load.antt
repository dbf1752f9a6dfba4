-- Loading a rule, for C: the word of the answer and what it tells, the entry's statement, and its part of the first
-- demand. Document 01: a library that "loads a rule; works out its horizon"; of a refusal, "Each returns number and
-- place". The word has the items in bits 8 to 23 and the horizon in bits 24 and up.
use Rattle.std.specs.Prelude.{◌≡◌, Result, Ok, Err, List, ℕ, ◌+◌, ◌*◌}
use Rattle.ground.specs.Buffers.{AllBytes}
use Rattle.ground.specs.declared.refusal.Refusal.{Refusal}
use Rattle.rules.specs.Loading.{read_rule, loaded_of}
use Rattle.rules.specs.declared.load.Loaded.{Loaded}
use Rattle.thistlecart.specs.Accessors.{refusal_told, items_told, horizon_told, TellsRefusal}
use Rattle.thistlecart.specs.Words.{bit8, bit24, refusal_word}

-- The word of what loading answers
abbrev pub load_word : Result Loaded Refusal → ℕ
load_word (Ok loaded) = loaded.items * bit8 + loaded.horizon * bit24
load_word (Err r) = refusal_word r

-- A word tells what loading answers
abbrev pub TellsLoaded : Result Loaded Refusal → ℕ → Type 0
TellsLoaded (Ok loaded) word =
    (refusal_told word ≡ 0) × (items_told word ≡ loaded.items) × (horizon_told word ≡ loaded.horizon)
TellsLoaded (Err r) word = TellsRefusal r word

-- What `thistlecart_load` says: the word is that of what loading answers
abbrev pub LoadEntry : List ℕ → ℕ → Type 0
LoadEntry rule word = word ≡ load_word (loaded_of (read_rule rule))

-- Its part of the first demand: the word tells what loading answers
abbrev pub LoadDemand : Type 0
LoadDemand =
    (rule : List ℕ) → AllBytes rule → (word : ℕ) → LoadEntry rule word → TellsLoaded (loaded_of (read_rule rule)) word
