-- What the search answers, and what it leaves in the two lent buffers. Document 01: "room is the table's length divided
-- by 80, rounded down, at most 65,536", "Search: rule, 14, 15", "14 witness buffer shorter than horizon + 1", "The
-- witness goes into the first bytes of its buffer in frame order, the rest unchanged. An answer gives met or not, the
-- length (0 if not) and the number of states counted as in demand 2. The table is all zero after every answer and after
-- refusal 15. "None exists" leaves the witness buffer unchanged." A state is "the value of all registers of the emitted
-- code", and a clip reaches the one "that its frames, last to first, lead to from fresh registers":
-- `steps_over (code_for f)`.
use Rattle.std.specs.Prelude.{Some, None, is_some, unwrap_or, Result, Ok, Err}
use Rattle.std.specs.Prelude.{◌≡◌, Bool, true, false, List, ℕ, ◌+◌, ltb, length, replicate}
use Rattle.ground.specs.Buffers.{over}
use Rattle.ground.specs.Frames.{Clip}
use Rattle.ground.specs.declared.refusal.Refusal.{Refusal}
use Rattle.rules.specs.Formula.{Formula, horizon}
use Rattle.rules.specs.Loading.{Reading, accepted, refused}
use Rattle.rules.specs.Meaning.{Holds}
use Rattle.sequencer.specs.After.{steps_over}
use Rattle.code.specs.Code.{Code}
use Rattle.emitter.specs.Translation.{code_for}
use Rattle.paths.specs.Answers.{Answer, met, none, no_room, Right}
use Rattle.table.specs.Room.{room_of}
use Rattle.finder.specs.declared.search.Found.{Found}

-- An answer as `search` gives it: length and states, states, or refusal 15
abbrev pub found_of : Answer → Result Found Refusal
found_of (met c n) = Ok (record { length = Some (length c); states = n })
found_of (none n) = Ok (record { length = None; states = n })
found_of no_room = Err Refusal.NoRoom

-- Met or not
abbrev pub is_met : Result Found Refusal → Bool
is_met (Ok found) = is_some found.length
is_met (Err r) = false

-- The length, 0 if not met
abbrev pub length_of : Result Found Refusal → ℕ
length_of (Ok found) = unwrap_or found.length 0
length_of (Err r) = 0

-- The number of states
abbrev pub states_of : Result Found Refusal → ℕ
states_of (Ok found) = found.states
states_of (Err r) = 0

-- The witness buffer after an answer: a clip over its first bytes, or as it was
abbrev pub witness_after : Answer → List ℕ → List ℕ
witness_after (met c n) witness = over c witness
witness_after (none n) witness = witness
witness_after no_room witness = witness

-- A right answer, by the states of some code and the clips that satisfy, is given; the table is all zero
pub record Answers (code : Code) (Meets : Clip → Type 0) (table witness : List ℕ) (r : Result Found Refusal)
    (table' witness' : List ℕ) : Type 0 where
  pub answer : Answer
  pub right : Right (steps_over code) Meets (room_of table) answer
  pub own_answer : r ≡ found_of answer
  pub own_table : table' ≡ replicate (length table) 0
  pub own_witness : witness' ≡ witness_after answer witness

-- A refusal that changes nothing
pub record Refuses (refusal : Refusal) (table witness : List ℕ) (r : Result Found Refusal)
    (table' witness' : List ℕ) : Type 0 where
  pub own_answer : r ≡ Err refusal
  pub own_table : table' ≡ table
  pub own_witness : witness' ≡ witness

-- Whether a witness buffer is shorter than horizon + 1
abbrev pub short_witness : Formula → List ℕ → Bool
short_witness f witness = ltb (length witness) (horizon f + 1)

-- What the search says of an accepted rule: 14 if the witness buffer is short, else a right answer
abbrev pub RuleSays : Bool → Formula → List ℕ → List ℕ → Result Found Refusal → List ℕ → List ℕ → Type 0
RuleSays true f table witness r table' witness' = Refuses Refusal.ShortWitness table witness r table' witness'
RuleSays false f table witness r table' witness' = Answers (code_for f) (Holds f) table witness r table' witness'

-- What the search says: the rule's refusal, or what it says of the rule
abbrev pub SearchSays : Reading → List ℕ → List ℕ → Result Found Refusal → List ℕ → List ℕ → Type 0
SearchSays (accepted is f) table witness r table' witness' =
    RuleSays (short_witness f witness) f table witness r table' witness'
SearchSays (refused refusal) table witness r table' witness' = Refuses refusal table witness r table' witness'
