-- What the model answers is right: each move keeps where the search stands, with the states that the clips reach, and each stop is an end of the search.
use mathlib.Core.Path.{◌≡◌, refl, ap, subst}
use mathlib.Core.Bool.{Bool, true, false}
use mathlib.Core.List.{List, [], ◌∷◌, ◌++◌, map, map-append}
use Prim.Native.Nat.{ℕ, zero, suc, ◌+◌, ◌≤◌, ◌<◌}
use native.Mathlib.Omega.{arith}
use borrow.Author.Tests.{ltb-true, ltb-false, eqb-true, eqb-false}
use lib.Dec.{eqb, ltb}
use lib.ListN.{length, get_or-map}
use Rattle.ground.specs.Frames.{Clip}
use Rattle.paths.specs.Answers.{Answer, Right}
use Rattle.paths.specs.Inner.Searching.{Stepwise, clip_at, frame_bytes, Searching}
use Rattle.paths.specs.Inner.Model.{Machine, after, MachineHits, Place, Moved, stop, go, trial, state_at, among, next_byte, new_state, led_to, tried, on_state}
use Rattle.paths.specs.Inner.Model.{on_length, move_at, move, Ended, ended, unfinished, loop, modelled}
use Rattle.paths.proofs.Turns.{begins, known_turn, new_turn, full_turn, next_state, next_length}
use Rattle.paths.proofs.Ends.{no_record, ends_met, ends_none, ends_full}

module _ {S : Type 0} (m : Machine S) where
  steps : Stepwise (after m) (MachineHits m)
  steps = record { leads = λ x c d e. ap (λ s. m.step s x) e; meets = λ x c d e h. subst (λ s. m.out s x ≡ true) e h }

  -- A state is that of one of the clips, or of none
  abbrev Known : Bool → S → List Clip → Type 0
  Known true t clips = (j : ℕ) × (j < length clips) × (after m (clip_at clips j) ≡ t)
  Known false t clips = (i : ℕ) → i < length clips → after m (clip_at clips i) ≡ t → ⊥

  module _ (room : ℕ) where
    -- Where the model stands: the search stands there, and the states are those of the clips
    record Modelled (p : Place S) : Type 0 where
      frames : ℕ
      search : Searching (after m) (MachineHits m) room p.clips frames p.k p.b p.ended p.full
      reached : p.states ≡ map (after m) p.clips
      within : p.b ≤ frame_bytes

    -- A move stops with a right answer, or the model stands where it leads to
    abbrev Sound : Moved S → Type 0
    Sound (stop a) = Right (after m) (MachineHits m) room a
    Sound (go q) = Modelled q

    -- An answer that moves come to is right
    abbrev Comes : Ended → Type 0
    Comes (ended a) = Right (after m) (MachineHits m) room a
    Comes unfinished = Unit {0}

  module _ (sound : (s t : S) → m.same s t ≡ true → s ≡ t) (finds : (s : S) → m.same s s ≡ true) where
    known : (t : S) (clips : List Clip) → Known (among m t (map (after m) clips)) t clips
    known t [] = λ i h q. omega arith
    known t (c ∷ clips) = of (m.same (after m c) t) refl (among m t (map (after m) clips)) (known t clips)
      where
        of : (b : Bool) → m.same (after m c) t ≡ b → (r : Bool) → Known r t clips → Known (elim b [ true ↦ true | false ↦ r ]) t (c ∷ clips)
        of true e r h = (0, omega arith, sound (after m c) t e)
        of false e true h = (suc h.0, omega (arith, h.1), h.2)
        of false e false h = none
          where
            none : (i : ℕ) → i < length (c ∷ clips) → after m (clip_at (c ∷ clips) i) ≡ t → ⊥
            none zero l q = let z : ◌≡◌ {A = ℕ} 0 1 = cc (finds t) in omega arith
            none (suc i) l q = h i (omega arith) q

    module _ (room : ℕ) (p : Place S) (s : Modelled room p) where
      state_at_lem : state_at m p ≡ after m (clip_at p.clips p.k)
      state_at_lem = rw s.reached (get_or-map (after m) p.clips p.k [])

      module _ (more : p.k < p.ended) (byte : p.b < frame_bytes) where
        -- the model stands before the next byte, if the search does
        next : (clips : List Clip) (states : List S) (full : Bool)
            → Searching (after m) (MachineHits m) room clips s.frames p.k (p.b + 1) p.ended full
            → states ≡ map (after m) clips → Modelled room (next_byte p clips states full)
        next clips states full h e = record { frames = s.frames; search = h; reached = e; within = omega arith }

        module _ (missed : MachineHits m (trial p) → ⊥) where
          new_sound : Known false (after m (trial p)) p.clips → (t : Bool) → ltb (length p.clips) room ≡ t
              → Modelled room (new_state t p (after m (trial p)))
          new_sound new true e =
              next (p.clips ++ trial p ∷ []) (p.states ++ after m (trial p) ∷ []) p.full
              (new_turn _ _ _ _ _ _ _ _ _ s.search more byte missed new (ltb-true (length p.clips) room e)) (rw (map-append, s.reached))
          new_sound new false e =
              next p.clips p.states true
              (full_turn _ _ _ _ _ _ _ _ _ s.search more byte missed new (ltb-false (length p.clips) room e)) s.reached

          led_sound : (t : Bool) → Known t (after m (trial p)) p.clips → Modelled room (led_to t room p (after m (trial p)))
          led_sound true h = next p.clips p.states p.full (known_turn _ _ _ _ _ _ _ _ _ s.search more byte missed h.0 h.1 h.2) s.reached
          led_sound false new = new_sound new (ltb (length p.clips) room) refl

        tried_sound : (t : Bool) → m.out (state_at m p) p.b ≡ t → Sound room (tried t m room p)
        tried_sound true e = ends_met _ _ _ steps _ _ _ _ _ _ s.search more byte (rw state_at_lem at e)
        tried_sound false e =
            let missed : MachineHits m (trial p) → ⊥ = λ hit. let z : ◌≡◌ {A = ℕ} 0 1 = cc state_at_lem in omega arith in
            rw state_at_lem (led_sound missed (among m (after m (trial p)) p.states) (rw s.reached (known (after m (trial p)) p.clips)))

      state_sound : p.k < p.ended → (t : Bool) → eqb p.b frame_bytes ≡ t → Sound room (on_state t m room p)
      state_sound more true e =
          record {
            frames = s.frames;
            search = next_state _ _ _ _ _ _ _ _ _ s.search more (eqb-true p.b frame_bytes e);
            reached = s.reached;
            within = omega arith;
          }
      state_sound more false e =
          let other : p.b ≡ frame_bytes → ⊥ = eqb-false p.b frame_bytes e in
          tried_sound more (omega arith) (m.out (state_at m p) p.b) refl

      length_sound : p.k ≡ p.ended → (full old : Bool) → p.full ≡ full → eqb p.ended (length p.clips) ≡ old → Sound room (on_length full old p)
      length_sound done true old f e = ends_full _ _ _ steps _ _ _ _ _ _ s.search done f
      length_sound done false true f e = ends_none _ _ _ steps _ _ _ _ _ _ s.search done f (eqb-true p.ended (length p.clips) e)
      length_sound done false false f e =
          record {
            frames = s.frames + 1;
            search = next_length _ _ _ _ _ _ _ _ _ s.search done f;
            reached = s.reached;
            within = s.within;
          }

      at_sound : (t : Bool) → eqb p.k p.ended ≡ t → Sound room (move_at t m room p)
      at_sound true e = length_sound (eqb-true p.k p.ended e) p.full (eqb p.ended (length p.clips)) refl refl
      at_sound false e =
          let other : p.k ≡ p.ended → ⊥ = eqb-false p.k p.ended e in
          state_sound (omega arith) (eqb p.b frame_bytes) refl

    loop_sound : (room fuel : ℕ) (p : Place S) → Modelled room p → Comes room (loop m room fuel p)
    loop_sound room zero p s = tt
    loop_sound room (suc fuel) p s = of (move m room p) (at_sound room p s (eqb p.k p.ended) refl) (loop_sound room fuel)
      where
        of : (r : Moved S) → Sound room r → ((q : Place S) → Modelled room q → Comes room (loop m room fuel q))
            → Comes room (elim r [ stop a ↦ ended a | go q ↦ loop m room fuel q ])
        of (stop a) h ih = h
        of (go q) h ih = ih q h

    comes : (room fuel : ℕ) → Comes room (modelled m room fuel)
    comes zero fuel = no_record _ _ _ refl
    comes (suc room) fuel =
        loop_sound (suc room) fuel _ (record { frames = 0; search = begins _ _ _ (omega arith); reached = refl; within = omega arith })

    -- Where `same` holds of equal states and of no others, each answer of the model is right
    pub model_right : (room fuel : ℕ) (a : Answer) → modelled m room fuel ≡ ended a → Right (after m) (MachineHits m) room a
    model_right room fuel a e = subst (Comes room) e (comes room fuel)
