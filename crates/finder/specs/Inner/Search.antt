-- What the parts of `search` need and leave. Contracts of inner functions cite it; `search` says nothing of it.
use Rattle.std.specs.Prelude.{◌≡◌, List, ◌∷◌, ℕ, ◌+◌, ◌≤◌, ◌<◌, length, Result}
use Rattle.ground.specs.Buffers.{over}
use Rattle.ground.specs.Frames.{Clip}
use Rattle.ground.specs.declared.refusal.Refusal.{Refusal}
use Rattle.code.specs.Programs.{Sound}
use Rattle.sequencer.specs.After.{steps_over}
use Rattle.code.specs.Code.{Code}
use Rattle.table.specs.Inner.Records.{room_in}
use Rattle.table.specs.Inner.Tables.{HasRoom}
use Rattle.paths.specs.Answers.{First, Answer, Right}
use Rattle.finder.specs.Inner.Explore.{Outputs, Shows}
use Rattle.finder.specs.Search.{found_of, witness_after, Answers}
use Rattle.finder.specs.declared.explore.Trial.{Trial}
use Rattle.finder.specs.declared.search.Found.{Found}

-- The state of a trial shows a clip, and the witness buffer has room for it with a frame in front
pub record CanShow (table : List ℕ) (trial : Trial) (witness : List ℕ) : Type 0 where
  pub clip : Clip
  pub shows : Shows table trial.state clip
  pub holds : HasRoom table
  pub inside : trial.state < room_in table
  pub room : length clip + 1 ≤ length witness

-- What showing it leaves: the clip that the state shows with the frame in front, over the buffer's first bytes
abbrev pub Showing : List ℕ → Trial → List ℕ → List ℕ → ℕ → Type 0
Showing table trial before after r =
    (clip : Clip) → Shows table trial.state clip
    → (r ≡ length clip + 1) × (after ≡ over (trial.frame ∷ clip) before)

-- Sound code, and a witness buffer that has room for the first clip on which its output is 1
pub record CanSearch (code : Code) (witness : List ℕ) : Type 0 where
  pub sound : Sound code
  pub room : (c : Clip) → First (Outputs code) c → length c ≤ length witness

-- The answer by the output of code
abbrev pub AnswersBy : Code → List ℕ → List ℕ → Result Found Refusal → List ℕ → List ℕ → Type 0
AnswersBy code table witness r table' witness' =
    Answers code (Outputs code) table witness r table' witness'

-- What is found in a table that is exactly its records: a right answer by the code's output, told with the witness
-- buffer
pub record SearchedIn (code : Code) (table witness : List ℕ) (r : Result Found Refusal)
    (witness' : List ℕ) : Type 0 where
  pub answer : Answer
  pub right : Right (steps_over code) (Outputs code) (room_in table) answer
  pub own_answer : r ≡ found_of answer
  pub own_witness : witness' ≡ witness_after answer witness
