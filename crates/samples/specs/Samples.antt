-- Document 01's samples that are marked to be proved, all of them: "Marked * are proved, together, as one statement
-- over one table." The table, and what it is for a row to be right. The last search is not the document's: its answer
-- needs one record, though a frame byte before the answer's leads to a second state.
use Rattle.std.specs.Prelude.{◌≡◌, List, [], ◌∷◌, ℕ, ◌+◌, ◌≤◌, length, replicate, Result, Ok, Err}
use Rattle.ground.specs.Frames.{Clip}
use Rattle.ground.specs.declared.refusal.Refusal.{Refusal}
use Rattle.rules.specs.Loading.{read_rule, loaded_of}
use Rattle.emitter.specs.Samples as emitter
use Rattle.paths.specs.Answers.{Answer, met, none}
use Rattle.finder.specs.Search.{states_of, found_of, witness_after, SearchSays}
use Rattle.table.specs.Room.{room_of}
use Rattle.finder.specs.declared.search.Found.{Found}

-- A row: a rule, its horizon and the search's answer; a rule and its refusal; a rule, a clip and what a run of its code
-- writes for it; or a rule and its code
pub data Sample : Type 0 where
  searches : List ℕ → ℕ → Answer → Sample
  refuses : List ℕ → Refusal → Sample
  each_frame : List ℕ → Clip → List ℕ → Sample
  emits : List ℕ → List ℕ → Sample

-- A row is right by the definitions that the contracts cite: a search says this for every table with room for the
-- states and every witness buffer of horizon + 1 bytes or more, a refusal for all
abbrev pub FoundRight : Sample → Type 0
FoundRight (searches rule horizon answer) =
    ((n : ℕ) × (loaded_of (read_rule rule) ≡ Ok (record { items = n; horizon = horizon })))
    × ((table witness : List ℕ) → states_of (found_of answer) ≤ room_of table → horizon + 1 ≤ length witness
    → (r : Result Found Refusal) (table' witness' : List ℕ)
    → SearchSays (read_rule rule) table witness r table' witness'
    → (r ≡ found_of answer) × (table' ≡ replicate (length table) 0) × (witness' ≡ witness_after answer witness))
FoundRight (refuses rule refusal) =
    (table witness : List ℕ) (r : Result Found Refusal) (table' witness' : List ℕ)
    → SearchSays (read_rule rule) table witness r table' witness'
    → (r ≡ Err refusal) × (table' ≡ table) × (witness' ≡ witness)
FoundRight (each_frame rule clip verdicts) = emitter.EmittedRight (emitter.each_frame rule clip verdicts)
FoundRight (emits rule code) = emitter.EmittedRight (emitter.emits rule code)

-- The table
unfoldable pub samples : List Sample
samples =
    searches (0x12 ∷ 0x00 ∷ []) 0 (met (0x01 ∷ []) 1)
    ∷ searches (0x10 ∷ []) 0 (met (0x00 ∷ []) 1)
    ∷ searches (0x11 ∷ []) 0 (none 1)
    ∷ searches (0x12 ∷ 0x00 ∷ 0x12 ∷ 0x00 ∷ 0x20 ∷ 0x21 ∷ []) 0 (none 1)
    ∷ searches (0x12 ∷ 0x00 ∷ 0x32 ∷ 0x02 ∷ 0x04 ∷ []) 4 (met (0x00 ∷ 0x00 ∷ 0x01 ∷ []) 4)
    ∷ searches (0x12 ∷ 0x00 ∷ 0x33 ∷ 0x02 ∷ 0x04 ∷ []) 4 (met (0x00 ∷ []) 1)
    ∷ searches (0x10 ∷ 0x32 ∷ 0x01 ∷ 0x01 ∷ []) 1 (met (0x00 ∷ 0x00 ∷ []) 2)
    ∷ searches (0x12 ∷ 0x00 ∷ 0x33 ∷ 0x00 ∷ 0x02 ∷ 0x12 ∷ 0x00 ∷ 0x20 ∷ 0x32 ∷ 0x01 ∷ 0x01 ∷ 0x21 ∷ []) 2 (none 4)
    ∷ refuses (0x12 ∷ 0x08 ∷ []) (Refusal.FlagTooLarge 0)
    ∷ refuses (0x12 ∷ []) (Refusal.CutShort 0)
    ∷ refuses (0x12 ∷ 0x80 ∷ 0x00 ∷ []) (Refusal.NotShortest 0)
    ∷ refuses (0x12 ∷ 0x00 ∷ 0x32 ∷ 0x04 ∷ 0x02 ∷ []) (Refusal.BadWindow 2)
    ∷ refuses (0x12 ∷ 0x00 ∷ 0x32 ∷ 0x00 ∷ 0x80 ∷ 0x02 ∷ []) (Refusal.BadWindow 2)
    ∷ refuses (0x21 ∷ []) (Refusal.TooFewOperands 0)
    ∷ refuses (0x10 ∷ 0x10 ∷ []) (Refusal.NotOneValue 2)
    ∷ each_frame (0x12 ∷ 0x00 ∷ 0x12 ∷ 0x01 ∷ 0x30 ∷ 0x01 ∷ 0x03 ∷ []) (0x00 ∷ 0x01 ∷ 0x02 ∷ [])
    (0x01 ∷ 0x01 ∷ 0x00 ∷ [])
    ∷ emits (0x12 ∷ 0x00 ∷ 0x32 ∷ 0x02 ∷ 0x04 ∷ [])
    (0x02 ∷ 0x00 ∷ 0x01 ∷ 0x04 ∷ 0x01 ∷ 0x00 ∷ 0x02 ∷ 0x05 ∷ 0x02 ∷ 0x02 ∷ [])
    ∷ searches (0x12 ∷ 0x00 ∷ 0x12 ∷ 0x00 ∷ 0x20 ∷ 0x32 ∷ 0x01 ∷ 0x01 ∷ 0x22 ∷ []) 1 (met (0x01 ∷ []) 1)
    ∷ []
