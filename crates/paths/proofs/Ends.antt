-- The ends of the search: each answer that it gives is right. Every clip of a length that is done with leads to a stored state, with a clip that comes no
-- later, by induction on the clip; so a clip that satisfies would have been met with the stored one in its place.
use mathlib.Core.Path.{◌≡◌, refl, sym, ap, ◌∙◌}
use mathlib.Core.Bool.{Bool, true, false, false≢true}
use mathlib.Core.List.{List, [], ◌∷◌, ◌++◌}
use mathlib.Core.Logic.{◌⊎◌, inl, inr, ⊎_elim, ⊎_map, by_cases}
use Prim.Native.Nat.{ℕ, suc, ◌+◌, ◌≤◌, ◌<◌}
use native.Mathlib.Decide.{dec_lt}
use native.Mathlib.Nat.{eq-or-lt_of_le}
use native.Mathlib.Omega.{arith}
use lib.ListN.{length, take}
use lib.Seq.{length-take-le, get_or-take}
use Rattle.ground.specs.Buffers.{AllBytes}
use Rattle.ground.specs.Frames.{Clip}
use Rattle.ground.proofs.Each.{each_of}
use Rattle.paths.specs.Order.{Less}
use Rattle.paths.specs.Answers.{Satisfying, Short, Counts, met, none, no_room, Right}
use Rattle.paths.specs.Inner.Searching.{Stepwise, clip_at, frame_bytes, Stored, Searching}
use Rattle.paths.proofs.Order.{less_not, less_trans, less_length}
use Rattle.paths.proofs.Counting.{empty_short}
use Rattle.paths.proofs.Clips.{length_more, at_more, pairs_more, longest, trial_length, trial_bytes}

-- A clip that comes no later than another
abbrev NoLater : Clip → Clip → Type 0
NoLater u v = (u ≡ v) ⊎ Less u v

no_later_trans : (u v w : Clip) → NoLater u v → NoLater v w → NoLater u w
no_later_trans u v w (inl e) k = rw e k
no_later_trans u v w (inr h) (inl e) = inr (rw e at h)
no_later_trans u v w (inr h) (inr k) = inr (less_trans u v w h k)

no_later_not : (u v : Clip) → NoLater u v → Less v u → ⊥
no_later_not u v (inl e) l = less_not v (rw e at l)
no_later_not u v (inr h) l = less_not u (less_trans u v u h l)

no_later_more : (x : ℕ) (u v : Clip) → NoLater u v → NoLater (x ∷ u) (x ∷ v)
unfolding Less
no_later_more x u v h = ⊎_map (λ e. cc) inl h

stored_length : {S : Type 0} {state : Clip → S} {clips : List Clip} {c : Clip} (r : Stored state clips c) → length (clip_at clips r.number) ≤ length c
stored_length {clips} {c} r = ⊎_elim (λ e. rw e (omega arith)) (less_length (clip_at clips r.number) c) r.early

module _ {S : Type 0} (state : Clip → S) (Meets : Clip → Type 0) (room : ℕ) where
  -- Without a record, the fresh state has no place
  pub no_record : room ≡ 0 → Right state Meets room no_room
  no_record e =
      record {
        clips = [] ∷ [];
        more = omega arith;
        distinct = record { short = (empty_short Meets, tt); different = λ i j l m. absurd (omega arith) };
      }

  module _ (steps : Stepwise state Meets) (clips : List Clip) (frames k b ended : ℕ) (full : Bool)
      (s : Searching state Meets room clips frames k b ended full) where
    -- If one frame more in front of each stored clip shorter than `far` leads to a stored state, so do all clips that are no longer
    covered : (far : ℕ) → ((i x : ℕ) → i < length clips → length (clip_at clips i) < far → x < frame_bytes → Stored state clips (x ∷ clip_at clips i))
        → (c : Clip) → AllBytes c → length c ≤ far → Stored state clips c
    covered far goes [] bytes h = record { number = 0; inside = omega arith; same = ap state s.empty; early = inl s.empty }
    covered far goes (x ∷ c) bytes h =
        let r = covered far goes c (λ i. bytes (suc i)) (omega arith) in
        let u = clip_at clips r.number in
        let t = goes r.number x r.inside (omega (arith, stored_length r)) (bytes 0) in
        record {
          number = t.number;
          inside = t.inside;
          same = t.same ∙ steps.leads x u c r.same;
          early = no_later_trans (clip_at clips t.number) (x ∷ u) (x ∷ c) t.early (no_later_more x u c r.early);
        }

    -- One frame more in front of a stored clip that is past, unless a record was lacking
    goes_on : (i x : ℕ) → i < k → x < frame_bytes → ((full ≡ true) × (length (clip_at clips i) ≡ frames) → ⊥) → Stored state clips (x ∷ clip_at clips i)
    goes_on i x h byte never = ⊎_elim (λ r. r) (λ e. absurd (never e)) (s.kept i x (byte, inl h))

    -- A clip's length says where it is stored
    old : (i : ℕ) → i < length clips → length (clip_at clips i) ≤ frames → i < ended
    old i h l = by_cases (dec_lt i ended) (λ m. m) (λ m. omega (arith, s.newer i (omega arith) h))

    past : (i : ℕ) → i < length clips → length (clip_at clips i) < frames → i < k
    past i h l = by_cases (dec_lt i k) (λ m. m) (λ m. omega (arith, s.present i (omega arith) (old i h (omega arith))))

    -- Clips of a length that is done with are covered
    stored : (c : Clip) → AllBytes c → length c ≤ frames → (r : Stored state clips c) × (r.number < ended)
    stored c bytes h =
        let r = covered frames (λ i x h l byte. goes_on i x (past i h l) byte (λ e. omega arith)) c bytes h in
        (r, old r.number r.inside (omega (arith, stored_length r)))

    -- A frame in front of a clip does not satisfy, if the state of the clip is past
    silent : (x : ℕ) (c : Clip) → x < frame_bytes → (r : Stored state clips c) → r.number < k → Meets (x ∷ c) → ⊥
    silent x c byte r h m = s.quiet r.number x (byte, inl h) (steps.meets x c (clip_at clips r.number) (sym r.same) m)

    -- If the states of all clips shorter than `far` are past, the clips that satisfy are longer
    longer : (far : ℕ) → ((c : Clip) → AllBytes c → length c < far → (r : Stored state clips c) × (r.number < k))
        → (d : Clip) → Satisfying Meets d → far < length d
    longer far h [] t = absurd (omega (arith, t.some))
    longer far h (x ∷ c) t =
        by_cases (dec_lt (length c) far)
        (λ l. let (r, p) = h c (λ i. t.bytes (suc i)) l in absurd (silent x c (t.bytes 0) r p t.meets))
        (λ l. omega arith)

    -- The first `ended` states are all that count, if their clips are short and each short clip reaches one of them
    counted : ((i : ℕ) → i < ended → (d : Clip) → Satisfying Meets d → length (clip_at clips i) < length d)
        → ((c : Clip) → Short Meets c → (r : Stored state clips c) × (r.number < ended)) → Counts state Meets ended
    counted shorter all =
        let n : length (take ended clips) ≡ ended = length-take-le ended clips s.begun in
        let at : (i : ℕ) → i < ended → clip_at (take ended clips) i ≡ clip_at clips i = λ i h. get_or-take ended clips i [] h in
        record {
          clips = take ended clips;
          number = n;
          distinct = record {
            short = each_of (Short Meets) (take ended clips) [] λ i l.
                let m : i < ended = omega arith in
                rw (at i m) (record { bytes = s.bytes i (omega arith); shorter = λ d t. omega (arith, shorter i m d t) });
            different = λ i j l m. rw (at i (omega arith), at j (omega arith)) (s.different i j l (omega arith));
          };
          all = λ c h. let (r, l) = all c h in (r.number, l, rw (at r.number l) r.same);
        }

    -- A clip that comes before the clip of state k is stored before it
    before : (c : Clip) → Less c (clip_at clips k) → (r : Stored state clips c) → r.number < k
    before c l r =
        by_cases (dec_lt r.number k) (λ m. m) λ m.
        let h = ⊎_map (λ e. ap (clip_at clips) e) (λ g. s.rising k r.number g r.inside) (eq-or-lt_of_le (omega arith)) in
        absurd (no_later_not (clip_at clips k) c (no_later_trans (clip_at clips k) (clip_at clips r.number) c h r.early) l)

    -- No clip that satisfies comes before the clip of the trial
    first : k < ended → (d : Clip) → Satisfying Meets d → Less d (b ∷ clip_at clips k) → ⊥
    unfolding Less
    first more [] t l = omega (arith, t.some)
    first more (x ∷ c) t (inl l) =
        let (r, _) = stored c (λ i. t.bytes (suc i)) (omega (arith, less_length c (clip_at clips k) l, s.older k more)) in
        silent x c (t.bytes 0) r (before c l r) t.meets
    first more (x ∷ c) t (inr (e, l)) = s.quiet k x (t.bytes 0, inr (refl, l)) (rw e at t.meets)

    -- The first trial that satisfies is the answer
    pub ends_met : k < ended → b < frame_bytes → Meets (b ∷ clip_at clips k) → Right state Meets room (met (b ∷ clip_at clips k) ended)
    ends_met more byte hit =
        let own : Satisfying Meets (b ∷ clip_at clips k) = record { bytes = trial_bytes s more byte; some = omega arith; meets = hit } in
        let long = longer frames (λ c bytes l. let (r, _) = stored c bytes (omega arith) in (r, past r.number r.inside (omega (arith, stored_length r))))
        in (
          record { satisfying = own; first = first more },
          counted (λ i h d t. omega (arith, long d t, s.older i h))
              (λ c h. stored c h.bytes (omega (arith, h.shorter (b ∷ clip_at clips k) own, trial_length s more))),
          omega arith,
        )

    -- All clips of a length are tried, and no new state was found
    pub ends_none : k ≡ ended → full ≡ false → ended ≡ length clips → Right state Meets room (none ended)
    ends_none done e no_more =
        let all : (c : Clip) → AllBytes c → (r : Stored state clips c) × (r.number < k) =
        λ c bytes. let r = covered (length c) (λ i x h l byte. goes_on i x (omega arith) byte (λ f. false≢true (sym e ∙ f.0))) c bytes (omega arith) in
        (r, omega arith) in
        let never : (c : Clip) → Satisfying Meets c → ⊥ = λ c t. omega (arith, longer (length c) (λ d bytes l. all d bytes) c t) in
        (never, counted (λ i h d t. absurd (never d t)) (λ c h. rw (← done) (all c h.bytes)), omega arith)

    -- All clips of a length are tried, and a state was found for which there is no record
    pub ends_full : k ≡ ended → full ≡ true → Right state Meets room no_room
    ends_full done e =
        let (whole, spare) = s.spare e in
        let long = longer (frames + 1) (λ c bytes l. rw done (stored c bytes (omega arith))) in
        record {
          clips = clips ++ spare.clip ∷ [];
          more = omega (arith, length_more clips spare.clip);
          distinct = record {
            short = each_of (Short Meets) (clips ++ spare.clip ∷ []) []
                (at_more clips spare.clip (λ i. Short Meets) (λ i l.
                record { bytes = s.bytes i l; shorter = λ d t. omega (arith, long d t, longest s i l) })
                (record { bytes = spare.bytes; shorter = λ d t. omega (arith, long d t) }));
            different = pairs_more clips spare.clip (λ u v. state u ≡ state v → ⊥) s.different spare.new;
          };
        }
