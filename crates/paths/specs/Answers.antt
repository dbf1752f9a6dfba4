-- What an answer of the search says, for any meaning and any states: `Meets` are the clips that satisfy, `state` is
-- what a clip reaches. It is stated, not computed. The second demand: "the search shows a satisfying clip, the
-- shortest, and of those the first when frames are compared from the last backwards; or says that none exists, exactly
-- if no clip of one or more frames satisfies the rule; before both comes "no room", exactly if the distinct register
-- states, the fresh one included, reached by clips shorter than the shortest satisfying one (by all clips, if there is
-- none) outnumber the table's records."
use Rattle.std.specs.Prelude.{◌≡◌, List, [], ℕ, ◌≤◌, ◌<◌, length, get_or}
use Rattle.ground.specs.Buffers.{AllBytes}
use Rattle.ground.specs.Each.{Each}
use Rattle.ground.specs.Frames.{Clip}
use Rattle.paths.specs.Order.{Less}

-- A satisfying clip: one or more frames, each a byte
pub record Satisfying (Meets : Clip → Type 0) (c : Clip) : Type 0 where
  pub bytes : AllBytes c
  pub some : 1 ≤ length c
  pub meets : Meets c

-- The first satisfying clip: none comes before it
pub record First (Meets : Clip → Type 0) (c : Clip) : Type 0 where
  pub satisfying : Satisfying Meets c
  pub first : (d : Clip) → Satisfying Meets d → Less d c → ⊥

-- A clip shorter than every satisfying one: than the shortest, or any clip if there is none. The empty sequence counts
-- as a clip here.
pub record Short (Meets : Clip → Type 0) (c : Clip) : Type 0 where
  pub bytes : AllBytes c
  pub shorter : (d : Clip) → Satisfying Meets d → length c < length d

-- Such clips, of which no two reach the same state
pub record Distinct {S : Type 0} (state : Clip → S) (Meets : Clip → Type 0) (clips : List Clip) : Type 0 where
  pub short : Each (Short Meets) clips
  pub different : (i j : ℕ) → i < j → j < length clips → state (get_or clips i []) ≡ state (get_or clips j []) → ⊥

-- So many distinct states are reached by such clips: by these, and each other one reaches the state of one of these
pub record Counts {S : Type 0} (state : Clip → S) (Meets : Clip → Type 0) (n : ℕ) : Type 0 where
  pub clips : List Clip
  pub number : length clips ≡ n
  pub distinct : Distinct state Meets clips
  pub all : (c : Clip) → Short Meets c → (i : ℕ) × (i < n) × (state (get_or clips i []) ≡ state c)

-- The distinct states that are reached by such clips outnumber the records
pub record Outnumber {S : Type 0} (state : Clip → S) (Meets : Clip → Type 0) (room : ℕ) : Type 0 where
  pub clips : List Clip
  pub more : room < length clips
  pub distinct : Distinct state Meets clips

-- An answer: a clip and the number of states, that there is none and the number of states, or no room
pub data Answer : Type 0 where
  met : Clip → ℕ → Answer
  none : ℕ → Answer
  no_room : Answer

-- What it is for an answer to be right, with room for so many states
abbrev pub Right : {S : Type 0} → (Clip → S) → (Clip → Type 0) → ℕ → Answer → Type 0
Right state Meets room (met c n) = First Meets c × Counts state Meets n × (n ≤ room)
Right state Meets room (none n) = ((c : Clip) → Satisfying Meets c → ⊥) × Counts state Meets n × (n ≤ room)
Right state Meets room no_room = Outnumber state Meets room
