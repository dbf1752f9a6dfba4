-- Where the search stands, over any step function: what is stored, and which trials are behind it. Trial (k, b) is
-- state k with frame byte b in front. Contracts of inner functions and the model cite it; the answers say nothing of
-- it. Document 01: "Search goes by length and stops at the first state and frame byte whose output is 1, states in the
-- order of their first clip, bytes 0 to 255. Only states reached by clips shorter than the answer need a record."
use Rattle.std.specs.Prelude.{◌≡◌, Bool, true, List, [], ◌∷◌, ◌⊎◌, ℕ, ◌+◌, ◌≤◌, ◌<◌, length, get_or}
use Rattle.ground.specs.Buffers.{byte_values, AllBytes}
use Rattle.ground.specs.Frames.{Clip}
use Rattle.paths.specs.Order.{Less}

-- States go by steps: what a frame in front of a clip leads to, and whether it satisfies, depends on the clip's state
-- alone
pub record Stepwise {S : Type 0} (state : Clip → S) (Meets : Clip → Type 0) : Type 0 where
  pub leads : (x : ℕ) (c d : Clip) → state c ≡ state d → state (x ∷ c) ≡ state (x ∷ d)
  pub meets : (x : ℕ) (c d : Clip) → state c ≡ state d → Meets (x ∷ c) → Meets (x ∷ d)

-- The clip of a stored state, by its number
abbrev pub clip_at : List Clip → ℕ → Clip
clip_at clips i = get_or clips i []

-- The number of frame bytes
abbrev pub frame_bytes : ℕ
frame_bytes = byte_values

-- A trial is behind trial (k, b)
abbrev pub Tried : ℕ → ℕ → ℕ → ℕ → Type 0
Tried k b i x = (x < frame_bytes) × ((i < k) ⊎ ((i ≡ k) × (x < b)))

-- The state that a clip reaches is stored, with a clip that comes no later
pub record Stored {S : Type 0} (state : Clip → S) (clips : List Clip) (c : Clip) : Type 0 where
  pub number : ℕ
  pub inside : number < length clips
  pub same : state (clip_at clips number) ≡ state c
  pub early : (clip_at clips number ≡ c) ⊎ Less (clip_at clips number) c

-- A clip of so many frames that reaches a state without a record
pub record Spare {S : Type 0} (state : Clip → S) (clips : List Clip) (frames : ℕ) : Type 0 where
  pub clip : Clip
  pub bytes : AllBytes clip
  pub long : length clip ≡ frames
  pub new : (i : ℕ) → i < length clips → state (clip_at clips i) ≡ state clip → ⊥

-- The search before trial (k, b): `clips` are those of the stored states, the first `ended` of them no longer than
-- `frames`; clips of one frame more are tried, and `full` says that one of them reached a state for which there was no
-- record
pub record Searching {S : Type 0} (state : Clip → S) (Meets : Clip → Type 0) (room : ℕ) (clips : List Clip)
    (frames k b ended : ℕ) (full : Bool) : Type 0 where
  pub some : 1 ≤ ended
  pub begun : ended ≤ length clips
  pub upto : k ≤ ended
  pub inside : length clips ≤ room
  pub empty : clip_at clips 0 ≡ []
  pub bytes : (i : ℕ) → i < length clips → AllBytes (clip_at clips i)
  pub rising : (i j : ℕ) → i < j → j < length clips → Less (clip_at clips i) (clip_at clips j)
  pub different : (i j : ℕ) → i < j → j < length clips → state (clip_at clips i) ≡ state (clip_at clips j) → ⊥
  pub quiet : (i x : ℕ) → Tried k b i x → Meets (x ∷ clip_at clips i) → ⊥
  pub kept : (i x : ℕ) → Tried k b i x → Stored state clips (x ∷ clip_at clips i)
      ⊎ ((full ≡ true) × (length (clip_at clips i) ≡ frames))
  pub older : (i : ℕ) → i < ended → length (clip_at clips i) ≤ frames
  pub present : (i : ℕ) → k ≤ i → i < ended → length (clip_at clips i) ≡ frames
  pub newer : (i : ℕ) → ended ≤ i → i < length clips → length (clip_at clips i) ≡ frames + 1
  pub behind : k < ended → (i : ℕ) → i < length clips → Less (clip_at clips i) (b ∷ clip_at clips k)
  pub spare : full ≡ true → (length clips ≡ room) × Spare state clips (frames + 1)
