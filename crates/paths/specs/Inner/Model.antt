-- An executable model of the search, over any machine, for computing samples: it tries the trials of `Searching.antt`
-- in turn, one in each move. `proofs/Model.antt` shows that what it answers is right. States are kept beside their
-- clips, so that none is computed again.
use Rattle.std.specs.Prelude.{◌≡◌, Bool, true, false, List, [], ◌∷◌, ◌++◌, ℕ, zero, suc, ◌+◌, eqb, ltb, length, get_or}
use Rattle.ground.specs.Frames.{Clip}
use Rattle.paths.specs.Answers.{Answer, met, none, no_room}
use Rattle.paths.specs.Inner.Searching.{clip_at, frame_bytes}

-- A machine: the fresh state, the state and the output that a frame leads to, and whether two states are the same
pub record Machine (S : Type 0) : Type 0 where
  pub fresh : S
  pub step : S → ℕ → S
  pub out : S → ℕ → Bool
  pub same : S → S → Bool

-- The state that a clip reaches, its last frame first
abbrev pub after : {S : Type 0} → Machine S → Clip → S
after m [] = m.fresh
after m (x ∷ c) = m.step (after m c) x

-- The output is 1 at a clip's frame 0
abbrev pub MachineHits : {S : Type 0} → Machine S → Clip → Type 0
MachineHits m [] = ⊥
MachineHits m (x ∷ c) = m.out (after m c) x ≡ true

-- Where the search stands, as in `Searching.antt`, with the states of the clips
pub record Place (S : Type 0) : Type 0 where
  pub clips : List Clip
  pub states : List S
  pub k : ℕ
  pub b : ℕ
  pub ended : ℕ
  pub full : Bool

-- What a move leads to: an answer, or the next place
pub data Moved (S : Type 0) : Type 0 where
  stop : Answer → Moved S
  go : Place S → Moved S

-- The clip of a trial
abbrev pub trial : {S : Type 0} → Place S → Clip
trial p = p.b ∷ clip_at p.clips p.k

-- The state that a trial begins with
abbrev pub state_at : {S : Type 0} → Machine S → Place S → S
state_at m p = get_or p.states p.k m.fresh

-- Whether a state is among others
abbrev pub among : {S : Type 0} → Machine S → S → List S → Bool
among m t [] = false
among m t (s ∷ states) = elim (m.same s t) [ true ↦ true | false ↦ among m t states ]

-- The next byte, with these clips, their states, and whether a state was found without a record
abbrev pub next_byte : {S : Type 0} → Place S → List Clip → List S → Bool → Place S
next_byte p clips states full =
    record { clips = clips; states = states; k = p.k; b = p.b + 1; ended = p.ended; full = full }

-- A trial led to a new state: it is stored, if there is a record for it
abbrev pub new_state : {S : Type 0} → Bool → Place S → S → Place S
new_state true p t = next_byte p (p.clips ++ trial p ∷ []) (p.states ++ t ∷ []) p.full
new_state false p t = next_byte p p.clips p.states true

-- A trial led to a state, stored already or new
abbrev pub led_to : {S : Type 0} → Bool → ℕ → Place S → S → Place S
led_to true room p t = next_byte p p.clips p.states p.full
led_to false room p t = new_state (ltb (length p.clips) room) p t

-- A trial, by its output
abbrev pub tried : {S : Type 0} → Bool → Machine S → ℕ → Place S → Moved S
tried true m room p = stop (met (trial p) p.ended)
tried false m room p = let t = m.step (state_at m p) p.b in go (led_to (among m t p.states) room p t)

-- The next trial with a state, if there is one; else the next state
abbrev pub on_state : {S : Type 0} → Bool → Machine S → ℕ → Place S → Moved S
on_state true m room p =
    go (record { clips = p.clips; states = p.states; k = p.k + 1; b = 0; ended = p.ended; full = p.full })
on_state false m room p = tried (m.out (state_at m p) p.b) m room p

-- All clips of a length are tried: without a record for some state it is "no room"; with no new state there is none;
-- else the next length begins
abbrev pub on_length : {S : Type 0} → Bool → Bool → Place S → Moved S
on_length true old p = stop no_room
on_length false true p = stop (none p.ended)
on_length false false p =
    go (record { clips = p.clips; states = p.states; k = p.k; b = p.b; ended = length p.clips; full = p.full })

-- One move, at the end of a length or before it
abbrev pub move_at : {S : Type 0} → Bool → Machine S → ℕ → Place S → Moved S
move_at true m room p = on_length p.full (eqb p.ended (length p.clips)) p
move_at false m room p = on_state (eqb p.b frame_bytes) m room p

-- One move
abbrev pub move : {S : Type 0} → Machine S → ℕ → Place S → Moved S
move m room p = move_at (eqb p.k p.ended) m room p

-- What so many moves come to
pub data Ended : Type 0 where
  ended : Answer → Ended
  unfinished : Ended

-- Moves in turn, so many at most
abbrev pub loop : {S : Type 0} → Machine S → ℕ → ℕ → Place S → Ended
loop m room zero p = unfinished
loop m room (suc fuel) p = elim (move m room p) [ stop a ↦ ended a | go q ↦ loop m room fuel q ]

-- The search with room for so many states, in so many moves at most
abbrev pub modelled : {S : Type 0} → Machine S → ℕ → ℕ → Ended
modelled m zero fuel = ended no_room
modelled m (suc room) fuel =
    loop m (suc room) fuel (record { clips = [] ∷ []; states = m.fresh ∷ []; k = 0; b = 0; ended = 1; full = false })
