-- The turns of the search: where it begins, and what each trial makes of where it stands. Every stored clip comes before that of the trial,
-- so a state that is known is stored with an earlier clip, and a new one goes to the end.
use mathlib.Core.Path.{◌≡◌, refl, sym, ap, ◌∙◌}
use mathlib.Core.Bool.{Bool, true, false, false≢true}
use mathlib.Core.List.{List, [], ◌∷◌, ◌++◌}
use mathlib.Core.Logic.{◌⊎◌, inl, inr, ⊎_map, by_cases}
use Prim.Native.Nat.{ℕ, zero, suc, ◌+◌, ◌≤◌, ◌<◌}
use native.Mathlib.Decide.{dec_lt}
use native.Mathlib.Omega.{arith}
use lib.ListN.{length}
use Rattle.ground.specs.Buffers.{AllBytes}
use Rattle.ground.specs.Frames.{Clip}
use Rattle.paths.specs.Order.{Less}
use Rattle.paths.specs.Inner.Searching.{clip_at, frame_bytes, Tried, Stored, Spare, Searching}
use Rattle.paths.proofs.Order.{less_trans, shorter_less}
use Rattle.paths.proofs.Clips.{length_more, old_at, new_at, at_more, pairs_more, longest, trial_length, trial_bytes}

untried : (i x : ℕ) → Tried 0 0 i x → ⊥
untried i x (h, inl l) = omega arith
untried i x (h, inr (e, l)) = omega arith

-- What holds of the trials behind this one, and of this one, holds of those behind the next
one_more : (k b : ℕ) (P : ℕ → ℕ → Type 0) → ((i x : ℕ) → Tried k b i x → P i x) → P k b → (i x : ℕ) → Tried k (b + 1) i x → P i x
one_more k b P old new i x (h, inl l) = old i x (h, inl l)
one_more k b P old new i x (h, inr (e, l)) =
    by_cases (dec_lt x b) (λ m. old i x (h, inr (e, m))) λ m. let f : x ≡ b = omega arith in rw (e, f) new

-- Trials with all bytes are behind the next state
all_bytes : (k i x : ℕ) → Tried (k + 1) 0 i x → Tried k frame_bytes i x
all_bytes k i x (h, inl l) = (h, by_cases (dec_lt i k) inl (λ m. inr (omega arith, h)))
all_bytes k i x (h, inr (e, l)) = absurd (omega arith)

tried_upto : (k b i x : ℕ) → Tried k b i x → i ≤ k
tried_upto k b i x (h, inl l) = omega arith
tried_upto k b i x (h, inr (e, l)) = omega arith

alone : (i : ℕ) → clip_at ([] ∷ []) i ≡ []
alone zero = refl
alone (suc i) = refl

module _ {S : Type 0} (state : Clip → S) (Meets : Clip → Type 0) (room : ℕ) where
  -- The fresh state alone is stored
  pub begins : 1 ≤ room → Searching state Meets room ([] ∷ []) 0 0 0 1 false
  unfolding Less
  begins h =
      record {
        some = omega arith;
        begun = omega arith;
        upto = omega arith;
        inside = omega arith;
        empty = refl;
        bytes = λ i l. rw (alone i) (λ j. omega arith);
        rising = λ i j l m. absurd (omega arith);
        different = λ i j l m. absurd (omega arith);
        quiet = λ i x t. absurd (untried i x t);
        kept = λ i x t. absurd (untried i x t);
        older = λ i l. rw (alone i) (omega arith);
        present = λ i l m. rw (alone i);
        newer = λ i l m. absurd (omega arith);
        behind = λ m i l. rw (alone i) tt;
        spare = λ e. absurd (false≢true e);
      }

  module _ (clips : List Clip) (frames k b ended : ℕ) (full : Bool) (s : Searching state Meets room clips frames k b ended full) where
    module _ (more : k < ended) (byte : b < frame_bytes) (missed : Meets (b ∷ clip_at clips k) → ⊥) where
      next_byte_lem : Less (b ∷ clip_at clips k) ((b + 1) ∷ clip_at clips k)
      unfolding Less
      next_byte_lem = inr (refl, omega arith)

      behind_next : (i : ℕ) → i < length clips → Less (clip_at clips i) ((b + 1) ∷ clip_at clips k)
      behind_next i h = less_trans (clip_at clips i) (b ∷ clip_at clips k) ((b + 1) ∷ clip_at clips k) (s.behind more i h) next_byte_lem

      quiet_next : (i x : ℕ) → Tried k (b + 1) i x → Meets (x ∷ clip_at clips i) → ⊥
      quiet_next = one_more k b (λ i x. Meets (x ∷ clip_at clips i) → ⊥) s.quiet missed

      -- The stored states stay as they are
      same_clips : (full' : Bool) → (full ≡ true → full' ≡ true) → Stored state clips (b ∷ clip_at clips k) ⊎ (full' ≡ true)
          → (full' ≡ true → (length clips ≡ room) × Spare state clips (frames + 1)) → Searching state Meets room clips frames k (b + 1) ended full'
      same_clips full' still new spare =
          record {
            some = s.some;
            begun = s.begun;
            upto = s.upto;
            inside = s.inside;
            empty = s.empty;
            bytes = s.bytes;
            rising = s.rising;
            different = s.different;
            quiet = quiet_next;
            kept =
                one_more k b (λ i x. Stored state clips (x ∷ clip_at clips i) ⊎ ((full' ≡ true) × (length (clip_at clips i) ≡ frames)))
                (λ i x t. ⊎_map (λ r. r) (λ e. (still e.0, e.1)) (s.kept i x t)) (⊎_map (λ r. r) (λ e. (e, s.present k (omega arith) more)) new);
            older = s.older;
            present = s.present;
            newer = s.newer;
            behind = λ h. behind_next;
            spare = spare;
          }

      -- The trial leads to a state that is stored
      pub known_turn : (j : ℕ) → j < length clips → state (clip_at clips j) ≡ state (b ∷ clip_at clips k)
          → Searching state Meets room clips frames k (b + 1) ended full
      known_turn j inside same =
          same_clips full (λ e. e) (inl (record { number = j; inside = inside; same = same; early = inr (s.behind more j inside) })) s.spare

      module _ (new : (i : ℕ) → i < length clips → state (clip_at clips i) ≡ state (b ∷ clip_at clips k) → ⊥) where
        stored_more : (d : Clip) → Stored state clips d → Stored state (clips ++ (b ∷ clip_at clips k) ∷ []) d
        stored_more d r =
            let e = old_at clips (b ∷ clip_at clips k) r.number r.inside in
            record { number = r.number; inside = omega (arith, length_more clips (b ∷ clip_at clips k)); same = rw e r.same; early = rw e r.early }

        -- It leads to a new state, and there is a record for it
        pub new_turn : length clips < room → Searching state Meets room (clips ++ (b ∷ clip_at clips k) ∷ []) frames k (b + 1) ended full
        new_turn h =
            let c : Clip = b ∷ clip_at clips k in
            let n = length_more clips c in
            let here : k < length clips = omega arith in
            record {
              some = s.some;
              begun = omega arith;
              upto = s.upto;
              inside = omega arith;
              empty = old_at clips c 0 (omega arith) ∙ s.empty;
              bytes = at_more clips c (λ i. AllBytes) s.bytes (trial_bytes s more byte);
              rising = pairs_more clips c Less s.rising (s.behind more);
              different = pairs_more clips c (λ u v. state u ≡ state v → ⊥) s.different new;
              quiet = λ i x t. rw (old_at clips c i (omega (arith, tried_upto k (b + 1) i x t))) (quiet_next i x t);
              kept = λ i x t. rw (old_at clips c i (omega (arith, tried_upto k (b + 1) i x t)))
                  (one_more k b (λ i x. Stored state (clips ++ c ∷ []) (x ∷ clip_at clips i) ⊎ ((full ≡ true) × (length (clip_at clips i) ≡ frames)))
                  (λ i x t. ⊎_map (stored_more (x ∷ clip_at clips i)) (λ e. e) (s.kept i x t))
                  (inl (record { number = length clips; inside = omega arith; same = ap state (new_at clips c); early = inl (new_at clips c) })) i x t);
              older = λ i l. rw (old_at clips c i (omega arith)) (s.older i l);
              present = λ i l m. rw (old_at clips c i (omega arith)) (s.present i l m);
              newer = λ i l m. at_more clips c (λ i d. ended ≤ i → length d ≡ frames + 1) (λ i m l. s.newer i l m) (λ l. trial_length s more) i m l;
              behind = λ l. rw (old_at clips c k here) (at_more clips c (λ i d. Less d ((b + 1) ∷ clip_at clips k)) behind_next next_byte_lem);
              spare = λ e. absurd (omega (arith, (s.spare e).0));
            }

        -- It leads to a new state, and there is no record for it
        pub full_turn : room ≤ length clips → Searching state Meets room clips frames k (b + 1) ended true
        full_turn h =
            let spare : Spare state clips (frames + 1) =
            record { clip = b ∷ clip_at clips k; bytes = trial_bytes s more byte; long = trial_length s more; new = new } in
            same_clips true (λ e. refl) (inr refl) (λ e. (omega arith, spare))

    -- The trial leads where one with a smaller byte led, and satisfies no more than that
    pub passed_turn : k < ended → b < frame_bytes → (x : ℕ) → x < b → state (x ∷ clip_at clips k) ≡ state (b ∷ clip_at clips k)
        → (Meets (b ∷ clip_at clips k) → Meets (x ∷ clip_at clips k))
        → Searching state Meets room clips frames k (b + 1) ended full
    passed_turn more byte x less same meets =
        let before : Tried k b k x = (omega arith, inr (refl, less)) in
        same_clips more byte (λ m. s.quiet k x before (meets m)) full (λ e. e)
        (⊎_map (λ r. record { number = r.number; inside = r.inside; same = r.same ∙ same; early = inr (s.behind more r.number r.inside) }) (λ e. e.0)
        (s.kept k x before))
        s.spare

    -- All bytes are tried with a state
    pub next_state : k < ended → b ≡ frame_bytes → Searching state Meets room clips frames (k + 1) 0 ended full
    unfolding Less
    next_state more all =
        record {
          some = s.some;
          begun = s.begun;
          upto = omega arith;
          inside = s.inside;
          empty = s.empty;
          bytes = s.bytes;
          rising = s.rising;
          different = s.different;
          quiet = λ i x t. s.quiet i x (rw all (all_bytes k i x t));
          kept = λ i x t. s.kept i x (rw all (all_bytes k i x t));
          older = s.older;
          present = λ i l m. s.present i (omega arith) m;
          newer = s.newer;
          behind = λ l i m. less_trans (clip_at clips i) (b ∷ clip_at clips k) (0 ∷ clip_at clips (k + 1)) (s.behind more i m)
              (inl (s.rising k (k + 1) (omega arith) (omega arith)));
          spare = s.spare;
        }

    -- All clips of a length are tried, and new states were found
    pub next_length : k ≡ ended → full ≡ false → Searching state Meets room clips (frames + 1) k b (length clips) full
    next_length done e =
        record {
          some = omega arith;
          begun = omega arith;
          upto = omega arith;
          inside = s.inside;
          empty = s.empty;
          bytes = s.bytes;
          rising = s.rising;
          different = s.different;
          quiet = s.quiet;
          kept = λ i x t. ⊎_map (λ r. r) (λ r. absurd (false≢true (sym e ∙ r.0))) (s.kept i x t);
          older = longest s;
          present = λ i l m. s.newer i (omega arith) m;
          newer = λ i l m. absurd (omega arith);
          behind = λ l i m. shorter_less (clip_at clips i) (b ∷ clip_at clips k) (omega (arith, longest s i m, s.newer k (omega arith) l));
          spare = λ r. absurd (false≢true (sym e ∙ r));
        }
