-- Where exploring stands, in the table: the records are those of the stored states. Contracts of inner functions cite
-- it; `search` says nothing of it.
use Rattle.std.specs.Prelude.{◌≡◌, Bool, MatchBool, true, false, List, [], ◌∷◌, ℕ, ◌+◌, ◌<◌, length}
use Rattle.std.specs.Prelude.{Option, Some, None, IfSome, MatchOption, is_none, Result, Ok, Err}
use Rattle.ground.specs.Frames.{Clip}
use Rattle.ground.specs.declared.refusal.Refusal.{Refusal}
use Rattle.sequencer.specs.After.{steps_over}
use Rattle.sequencer.specs.Bits.{output}
use Rattle.code.specs.Code.{Code}
use Rattle.code.specs.Good.{GoodCode}
use Rattle.code.specs.Programs.{Sound}
use Rattle.sequencer.specs.Stepping.{advanced_by}
use Rattle.sequencer.specs.declared.registers.Registers.{Registers}
use Rattle.paths.specs.Answers.{met, none, no_room, Right}
use Rattle.paths.specs.Inner.Searching.{clip_at, frame_bytes, Searching}
use Rattle.finder.specs.Inner.Flags.{PassesOver}
use Rattle.table.specs.Inner.Index.{Indexed}
use Rattle.table.specs.Inner.Records.{Keeps, KeptBy, SameState, link_in, frame_in, record_at, room_in}
use Rattle.table.specs.Inner.Tables.{HasRoom}
use Rattle.finder.specs.declared.explore.Trial.{Trial}
use Rattle.finder.specs.declared.explore.Explored.{Explored}

-- A clip on which code's output is 1
abbrev pub Outputs : Code → Clip → Type 0
Outputs code c = output code c ≡ true

-- The frames that lead from a record back to one without a link, which is the fresh state's
unfoldable pub Shows : List ℕ → ℕ → Clip → Type 0
Shows table n [] = link_in (record_at table n) ≡ None
Shows table n (x ∷ c) = (frame_in (record_at table n) ≡ x) × (m : ℕ) × (link_in (record_at table n) ≡ Some m) × (m < n)
    × Shows table m c

-- The search before trial (k, b), with the records of the stored states. How many there are is told until a state is
-- found for which there is no record.
pub record Exploring (code : Code) (table : List ℕ) (k b ended : ℕ) (stored : Option ℕ) : Type 0 where
  pub clips : List Clip
  pub frames : ℕ
  pub number : IfSome stored (λ n. length clips ≡ n)
  pub holds : HasRoom table
  pub indexed : Indexed table (length clips)
  pub keeps : (i : ℕ) → i < length clips → Keeps (record_at table i) (steps_over code (clip_at clips i))
  pub shows : (i : ℕ) → i < length clips → Shows table i (clip_at clips i)
  pub searching : Searching (steps_over code) (Outputs code) (room_in table) clips frames k b ended (is_none stored)

-- The clip of a trial is the answer, with so many states, and the table shows the clip of its state
pub record Met (code : Code) (table : List ℕ) (trial : Trial) (states : ℕ) : Type 0 where
  pub clip : Clip
  pub inside : trial.state < room_in table
  pub shows : Shows table trial.state clip
  pub right : Right (steps_over code) (Outputs code) (room_in table) (met (trial.frame ∷ clip) states)

-- Exploring stands before a trial, which leads to these registers and does not satisfy
pub record Misses (code : Code) (table : List ℕ) (trial : Trial) (ended : ℕ) (stored : Option ℕ) (r : Registers)
    : Type 0 where
  pub good : GoodCode code
  pub exploring : Exploring code table trial.state trial.frame ended stored
  pub more : trial.state < ended
  pub byte : trial.frame < frame_bytes
  pub missed : (s : Registers) → Keeps (record_at table trial.state) s
      → record { bit = false; registers = r } ≡ advanced_by code trial.frame s

-- A trial that leads to such registers can be kept
abbrev pub CanKeep : List ℕ → Trial → Option ℕ → Registers → Type 0
CanKeep table trial stored r = (code : Code) × (ended : ℕ) × Misses code table trial ended stored r

-- Behind a trial: the search is before the next one, and the record of the trial's state keeps what it had
abbrev pub Behind : Code → List ℕ → List ℕ → Trial → ℕ → Option ℕ → Type 0
Behind code before after trial ended next = Exploring code after trial.state (trial.frame + 1) ended next
    × SameState (record_at before trial.state) (record_at after trial.state)

-- What keeping leaves
abbrev pub Keeping : List ℕ → List ℕ → Trial → Option ℕ → Registers → Option ℕ → Type 0
Keeping before after trial stored r next =
    (code : Code) (ended : ℕ) → Misses code before trial ended stored r → Behind code before after trial ended next

-- What a trial needs: sound code, the registers that the record of its state keeps, and the search before it
pub record CanTry (code : Code) (table : List ℕ) (r : Registers) (k b ended : ℕ) (stored : Option ℕ)
    : Type 0 where
  pub sound : Sound code
  pub own : KeptBy (record_at table k) r
  pub more : k < ended
  pub exploring : Exploring code table k b ended stored

-- A trial can be made
abbrev pub CanTryByte : Code → List ℕ → Registers → Trial → Option ℕ → Type 0
CanTryByte code table r trial stored = (ended : ℕ) × CanTry code table r trial.state trial.frame ended stored

-- What making it leaves: it satisfies, or it is behind
abbrev pub TryingByte : Code → List ℕ → List ℕ → Registers → Trial → Option ℕ → Option ℕ → Bool → Type 0
TryingByte code before after r trial stored next hit =
    (ended : ℕ) → CanTry code before r trial.state trial.frame ended stored
    → MatchBool hit (Met code after trial ended) (Behind code before after trial ended next)

-- What the trials of a length need: sound code, bytes that can be passed over with it, and states of that length from
-- the first on
pub record Tries (code : Code) (passed : List Bool) (table : List ℕ) (first ended : ℕ) (stored : Option ℕ)
    : Type 0 where
  pub sound : Sound code
  pub passes : PassesOver code passed
  pub exploring : Exploring code table first 0 ended stored

-- What they come to: the first trial that satisfies, or all are behind
abbrev pub TriedTo : Code → List ℕ → ℕ → Option ℕ → Option Trial → Type 0
TriedTo code table ended stored tried =
    MatchOption tried (Exploring code table ended 0 ended stored) (λ trial. Met code table trial ended)

-- What exploring needs: sound code, and a table that is exactly its records, with an empty index
pub record CanExplore (code : Code) (table : List ℕ) : Type 0 where
  pub sound : Sound code
  pub holds : HasRoom table
  pub indexed : Indexed table 0

-- What exploring comes to
abbrev pub Ends : Code → List ℕ → Result Explored Refusal → Type 0
Ends code table (Ok end) =
    MatchOption end.met (Right (steps_over code) (Outputs code) (room_in table) (none end.states))
    (λ trial. Met code table trial end.states)
Ends code table (Err refusal) =
    (refusal ≡ Refusal.NoRoom) × Right (steps_over code) (Outputs code) (room_in table) no_room
