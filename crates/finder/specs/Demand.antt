-- The second demand, past the refusals on rule and witness buffer: the search shows a satisfying clip, the shortest,
-- and of those the first when frames are compared from the last backwards; or says that none exists, exactly if no clip
-- of one or more frames satisfies the rule; before both comes "no room", exactly if the distinct register states, the
-- fresh one included, reached by clips shorter than the shortest satisfying one (by all clips, if there is none)
-- outnumber the table's records.
use Rattle.std.specs.Prelude.{◌≡◌, true, false, List, ◌↔◌, ℕ, ◌+◌, ◌≤◌, length, take, drop, replicate, Result}
use Rattle.std.specs.Prelude.{Err}
use Rattle.ground.specs.Frames.{Clip}
use Rattle.ground.specs.declared.refusal.Refusal.{Refusal}
use Rattle.rules.specs.Formula.{Formula, horizon}
use Rattle.rules.specs.Loading.{Items, accepted, read_rule}
use Rattle.rules.specs.Meaning.{Holds}
use Rattle.sequencer.specs.After.{steps_over}
use Rattle.emitter.specs.Translation.{code_for}
use Rattle.paths.specs.Answers.{Satisfying, First, Counts, Outnumber}
use Rattle.table.specs.Room.{room_of}
use Rattle.finder.specs.Search.{is_met, length_of, states_of, SearchSays}
use Rattle.finder.specs.declared.search.Found.{Found}

-- The distinct states so counted are so many
abbrev pub States : Formula → ℕ → Type 0
States f n = Counts (steps_over (code_for f)) (Holds f) n

-- A clip of so many frames is shown: it is the first that satisfies the rule, it stands in the buffer's first bytes in
-- frame order, and the rest is as before
pub record Shown (f : Formula) (l : ℕ) (before after : List ℕ) : Type 0 where
  pub first : First (Holds f) (take l after)
  pub long : length (take l after) ≡ l
  pub rest : drop l after ≡ drop l before
  pub same : length after ≡ length before

-- What is demanded of the answer for a rule, and of both buffers after it
pub record Demanded (f : Formula) (table witness : List ℕ) (r : Result Found Refusal)
    (table' witness' : List ℕ) : Type 0 where
  pub refuses : (refusal : Refusal) → r ≡ Err refusal → refusal ≡ Refusal.NoRoom
  pub no_room : (r ≡ Err Refusal.NoRoom) ↔ Outnumber (steps_over (code_for f)) (Holds f) (room_of table)
  pub none : (r ≡ Err Refusal.NoRoom → ⊥) → (is_met r ≡ false) ↔ ((c : Clip) → Satisfying (Holds f) c → ⊥)
  pub states : (r ≡ Err Refusal.NoRoom → ⊥) → States f (states_of r)
  pub shown : is_met r ≡ true → Shown f (length_of r) witness witness'
  pub not_shown : is_met r ≡ false → (length_of r ≡ 0) × (witness' ≡ witness)
  pub zero : table' ≡ replicate (length table) 0

-- The demand: of an accepted rule and a witness buffer that is not shorter than horizon + 1, `search` answers and
-- leaves just this
abbrev pub DemandTwo : Type 0
DemandTwo =
    (rule table witness : List ℕ) (is : Items) (f : Formula) → read_rule rule ≡ accepted is f
    → horizon f + 1 ≤ length witness
    → (r : Result Found Refusal) (table' witness' : List ℕ)
    → SearchSays (read_rule rule) table witness r table' witness'
    → Demanded f table witness r table' witness'
