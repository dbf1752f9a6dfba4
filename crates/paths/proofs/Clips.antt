-- The clips of the search, for its turns and its ends: a list with one clip more at the end, how long the stored clips are, and the clip of the trial.
use mathlib.Core.Path.{◌≡◌}
use mathlib.Core.Bool.{Bool}
use mathlib.Core.List.{List, [], ◌∷◌, ◌++◌}
use mathlib.Core.Logic.{by_cases}
use Prim.Native.Nat.{ℕ, zero, suc, ◌+◌, ◌≤◌, ◌<◌}
use native.Mathlib.Decide.{dec_lt}
use native.Mathlib.Omega.{arith}
use lib.ListN.{length, length-append, get_or-append}
use lib.Seq.{get_or-append_seam}
use Rattle.ground.specs.Buffers.{AllBytes}
use Rattle.ground.specs.Frames.{Clip}
use Rattle.paths.specs.Inner.Searching.{clip_at, frame_bytes, Searching}

module _ (clips : List Clip) (c : Clip) where
  pub length_more : length (clips ++ c ∷ []) ≡ length clips + 1
  length_more = simp length-append

  pub old_at : (i : ℕ) → i < length clips → clip_at (clips ++ c ∷ []) i ≡ clip_at clips i
  old_at i h = get_or-append clips (c ∷ []) [] i h

  pub new_at : clip_at (clips ++ c ∷ []) (length clips) ≡ c
  new_at = get_or-append_seam clips c [] []

  -- What holds of the clips of a list, and of the new one, holds of all
  pub at_more : (P : ℕ → Clip → Type 0) → ((i : ℕ) → i < length clips → P i (clip_at clips i)) → P (length clips) c
      → (i : ℕ) → i < length (clips ++ c ∷ []) → P i (clip_at (clips ++ c ∷ []) i)
  at_more P old new i h =
      by_cases (dec_lt i (length clips)) (λ l. rw (old_at i l) (old i l)) λ l.
      let e : i ≡ length clips = omega (arith, length_more) in rw (e, new_at) new

  pub pairs_more : (R : Clip → Clip → Type 0) → ((i j : ℕ) → i < j → j < length clips → R (clip_at clips i) (clip_at clips j))
      → ((i : ℕ) → i < length clips → R (clip_at clips i) c)
      → (i j : ℕ) → i < j → j < length (clips ++ c ∷ []) → R (clip_at (clips ++ c ∷ []) i) (clip_at (clips ++ c ∷ []) j)
  pairs_more R old new i j l h =
      at_more (λ j d. i < j → R (clip_at (clips ++ c ∷ []) i) d) (λ j k l. rw (old_at i (omega arith)) (old i j l k)) (λ l. rw (old_at i l) (new i l)) j h l

module _ {S : Type 0} {state : Clip → S} {Meets : Clip → Type 0} {room : ℕ} {clips : List Clip} {frames k b ended : ℕ} {full : Bool}
    (s : Searching state Meets room clips frames k b ended full) where
  pub longest : (i : ℕ) → i < length clips → length (clip_at clips i) ≤ frames + 1
  longest i h = by_cases (dec_lt i ended) (λ l. omega (arith, s.older i l)) (λ l. omega (arith, s.newer i (omega arith) h))

  module _ (more : k < ended) where
    pub trial_length : length (b ∷ clip_at clips k) ≡ frames + 1
    trial_length = omega (arith, s.present k (omega arith) more)

    pub trial_bytes : b < frame_bytes → AllBytes (b ∷ clip_at clips k)
    trial_bytes h zero = h
    trial_bytes h (suc i) = s.bytes k (omega arith) i
