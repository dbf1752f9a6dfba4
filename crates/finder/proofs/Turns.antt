-- Exploring in the table. Registers and output go by steps, so the turns and ends of the search hold of the records: a state that is looked up is known or new
-- by its registers, and storing a new one leaves what those before it keep and show as it was. A byte that is passed over leads where a smaller one led.
use mathlib.Core.Path.{◌≡◌, refl, sym, ap, subst, ◌∙◌}
use mathlib.Core.Bool.{Bool, true, false, false≢true}
use mathlib.Core.List.{List, [], ◌∷◌, ◌++◌}
use Prim.Native.Nat.{ℕ, zero, suc, ◌+◌, ◌/◌, ◌≤◌, ◌<◌}
use native.Mathlib.Omega.{arith}
use lib.ListN.{length, get_or}
use Rattle.std.proofs.Common.{Option, Some, None, IfSome, is_none, is_some}
use Rattle.ground.specs.Frames.{Clip}
use Rattle.ground.specs.Limits.{limits}
use Rattle.sequencer.specs.After.{steps_over}
use Rattle.sequencer.specs.Bits.{output}
use Rattle.code.specs.Code.{Code}
use Rattle.code.specs.Good.{GoodCode}
use Rattle.sequencer.specs.Registers.{fresh_registers, start, executed, output_of}
use Rattle.sequencer.specs.Stepping.{advanced_by}
use Rattle.sequencer.specs.declared.registers.Registers.{Registers}
use Rattle.sequencer.proofs.After.{after_clip, after_output}
use Rattle.code.proofs.Counting.{good_lines}
use Rattle.paths.specs.Answers.{none, no_room, Right}
use Rattle.paths.specs.Inner.Searching.{Stepwise, clip_at, frame_bytes, Searching}
use Rattle.paths.proofs.Clips.{length_more, at_more}
use Rattle.paths.proofs.Turns.{begins, known_turn, new_turn, full_turn, passed_turn, next_state, next_length}
use Rattle.paths.proofs.Ends.{ends_met, ends_none, ends_full}
use Rattle.table.proofs.Records.{keeps_one, link_same}
use Rattle.table.proofs.Tables.{room_kept}
use Rattle.finder.proofs.Naming.{passed_alike}
use Rattle.finder.specs.Inner.Explore.{Outputs, Exploring, Met, Misses, Keeping, Shows}
use Rattle.finder.specs.Inner.Flags.{PassesOver}
use Rattle.table.specs.Inner.Index.{Indexed}
use Rattle.table.specs.Inner.Records.{Keeps, SameState, record_at, room_in, link_in, link_place, frame_place}
use Rattle.table.specs.Inner.Tables.{HasRoom, Filled, Looks, Stores}
use Rattle.finder.specs.declared.explore.Trial.{Trial}

-- The output of a step is that of the clip with the frame in front
pub output_step : (code : Code) → GoodCode code → (x : ℕ) (c : Clip) → output_of code (executed x code (start (steps_over code c))) ≡ output code (x ∷ c)
output_step code good x c = rw (after_clip code good c) (after_output code (good_lines code good) x c)

-- Registers and output go by steps
pub stepwise : (code : Code) → GoodCode code → Stepwise (steps_over code) (Outputs code)
unfolding steps_over
stepwise code good =
    record {
      leads = λ x c d e. rw e;
      meets = λ x c d e h. sym (output_step code good x d) ∙ rw (← e) (output_step code good x c) ∙ h;
    }

-- Records with the same registers, link and frame byte
module _ (before after : List ℕ) (same : SameState before after) where
  keeps_on : {r : Registers} → Keeps before r → Keeps after r
  keeps_on k = record { whole = k.whole; own = λ j h. same j (omega arith) ∙ k.own j h }

  pub keeps_back : {r : Registers} → Keeps after r → Keeps before r
  keeps_back k = record { whole = k.whole; own = λ j h. sym (same j (omega arith)) ∙ k.own j h }

  same_link : link_in after ≡ link_in before
  same_link = link_same link_place after before (λ j low high. same j (omega arith))

-- What records show stays if they and those before them keep what they had
shows_kept : (before after : List ℕ) (n : ℕ) (c : Clip) → ((m : ℕ) → m ≤ n → SameState (record_at before m) (record_at after m)) → Shows before n c
    → Shows after n c
unfolding Shows
shows_kept before after n [] same h = same_link (record_at before n) (record_at after n) (same n (omega arith)) ∙ h
shows_kept before after n (x ∷ c) same h =
    let (frame, m, link, less, rest) = h in (
      same n (omega arith) frame_place (omega arith) ∙ frame,
      m,
      same_link (record_at before n) (record_at after n) (same n (omega arith)) ∙ link,
      less,
      shows_kept before after m c (λ i l. same i (omega arith)) rest,
    )

-- The search moves on, and the records stay
same_records : {code : Code} {table : List ℕ} {k b ended : ℕ} {stored : Option ℕ} (e : Exploring code table k b ended stored) {frames k' b' ended' : ℕ}
    (next : Option ℕ) → IfSome next (λ n. length e.clips ≡ n)
    → Searching (steps_over code) (Outputs code) (room_in table) e.clips frames k' b' ended' (is_none next) → Exploring code table k' b' ended' next
same_records e {frames = frames} next number s =
    record { clips = e.clips; frames = frames; number = number; holds = e.holds; indexed = e.indexed; keeps = e.keeps; shows = e.shows; searching = s }

-- The search in a table that is as long
as_long_search : (code : Code) (table after : List ℕ) {clips : List Clip} {frames k b ended : ℕ} {full : Bool} → length after ≡ length table
    → Searching (steps_over code) (Outputs code) (room_in table) clips frames k b ended full
    → Searching (steps_over code) (Outputs code) (room_in after) clips frames k b ended full
as_long_search code table after {clips} {frames} {k} {b} {ended} {full} same s =
    subst (λ size. Searching (steps_over code) (Outputs code) (size / limits.record_bytes) clips frames k b ended full) (sym same) s

-- The stored states are in the index
filled : {code : Code} {table : List ℕ} {k b ended : ℕ} {stored : Option ℕ} (e : Exploring code table k b ended stored) → Filled table (length e.clips)
filled e =
    record {
      holds = e.holds;
      some = omega (arith, e.searching.some, e.searching.begun, e.searching.inside);
      inside = e.searching.inside;
      indexed = e.indexed;
    }

-- A trial that does not satisfy
module _ {code : Code} {table : List ℕ} {trial : Trial} {ended : ℕ} {stored : Option ℕ} {r : Registers} (m : Misses code table trial ended stored r) where
  abbrev e : Exploring code table trial.state trial.frame ended stored
  e = m.exploring

  -- its state is stored
  inside : trial.state < length e.clips
  inside = omega (arith, m.more, e.searching.begun)

  abbrev tried : Clip
  tried = trial.frame ∷ clip_at e.clips trial.state

  -- it leads to these registers
  led : r ≡ steps_over code tried
  unfolding steps_over advanced_by
  led = ap (λ a. a.registers) (m.missed _ (e.keeps trial.state inside))

  missed : Outputs code tried → ⊥
  unfolding advanced_by
  missed hit =
      let no : false ≡ output code tried =
      ap (λ a. a.bit) (m.missed _ (e.keeps trial.state inside)) ∙ output_step code m.good trial.frame (clip_at e.clips trial.state) in
      let z : ◌≡◌ {A = ℕ} 0 1 = cc in
      omega arith

  -- its registers are kept by a record
  known : (n : ℕ) → n < length e.clips → Keeps (record_at table n) r → Exploring code table trial.state (trial.frame + 1) ended stored
  known n there keeps =
      same_records e stored e.number
      (known_turn _ _ _ _ _ _ _ _ _ e.searching m.more m.byte missed n there (keeps_one _ _ _ (e.keeps n there) keeps ∙ led))

  module _ (nowhere : (n : ℕ) → n < length e.clips → Keeps (record_at table n) r → ⊥) where
    -- they are those of no stored state
    new : (i : ℕ) → i < length e.clips → steps_over code (clip_at e.clips i) ≡ steps_over code tried → ⊥
    new i h same = nowhere i h (subst (Keeps (record_at table i)) (same ∙ sym led) (e.keeps i h))

    -- there is no record for them
    left_out : room_in table ≤ length e.clips → Exploring code table trial.state (trial.frame + 1) ended None
    left_out h = same_records e None tt (full_turn _ _ _ _ _ _ _ _ _ e.searching m.more m.byte missed new h)

    -- they are stored
    module _ (some : is_none stored ≡ false) (more : length e.clips < room_in table) (after : List ℕ)
        (s : Stores table after (length e.clips) r (Some trial.state) trial.frame) where
      same_record : (i : ℕ) → i < length e.clips → SameState (record_at table i) (record_at after i)
      same_record i h = s.others i h

      old_show : (i : ℕ) → i < length e.clips → Shows after i (clip_at e.clips i)
      old_show i h = shows_kept table after i (clip_at e.clips i) (λ j l. same_record j (omega arith)) (e.shows i h)

      new_show : Shows after (length e.clips) tried
      unfolding Shows
      new_show = (s.written.own_frame, trial.state, s.written.own_link, inside, old_show trial.state inside)

      one_stored : Exploring code after trial.state (trial.frame + 1) ended (Some (length e.clips + 1))
      one_stored =
          let next = new_turn _ _ _ _ _ _ _ _ _ e.searching m.more m.byte missed new more in
          record {
            clips = e.clips ++ tried ∷ [];
            frames = e.frames;
            number = length_more e.clips tried;
            holds = room_kept table after s.same e.holds;
            indexed = rw (length_more e.clips tried) (s.indexed e.indexed);
            keeps = at_more e.clips tried (λ i c. Keeps (record_at after i) (steps_over code c)) (λ i h. keeps_on _ _ (same_record i h) (e.keeps i h))
                (rw (← led) s.written.keeps);
            shows = at_more e.clips tried (Shows after) old_show new_show;
            searching = as_long_search code table after s.same (rw some at next);
          }

-- Keeping a trial's state: it is known, there is no record for it, or it is stored
module _ (table : List ℕ) (trial : Trial) (r : Registers) where
  pub keeping_known : (look : Option ℕ) → is_some look ≡ true → ((s : ℕ) → Filled table s → Looks table s r look) → (stored : Option ℕ)
      → Keeping table table trial stored r stored
  keeping_known None found looks stored code ended m = absurd (false≢true found)
  keeping_known (Some n) found looks stored code ended m = let (there, keeps, last) = looks _ (filled m.exploring) in (known m n there keeps, λ j l. refl)

  module _ (looks : (s : ℕ) → Filled table s → Looks table s r None) where
    pub keeping_none : Keeping table table trial None r None
    keeping_none code ended m =
        let all = (m.exploring.searching.spare refl).0 in
        (left_out m (looks _ (filled m.exploring)) (omega (arith, all)), λ j l. refl)

    pub keeping_full : (count : ℕ) → room_in table ≤ count → Keeping table table trial (Some count) r None
    keeping_full count h code ended m = (left_out m (looks _ (filled m.exploring)) (omega (arith, m.exploring.number)), λ j l. refl)

    pub keeping_new : (count : ℕ) → count < room_in table → (after : List ℕ) → Stores table after count r (Some trial.state) trial.frame
        → Keeping table after trial (Some count) r (Some (count + 1))
    keeping_new count h after s code ended m =
        let nowhere = looks _ (filled m.exploring) in
        let more : length m.exploring.clips < room_in table = omega (arith, m.exploring.number) in
        let s' : Stores table after (length m.exploring.clips) r (Some trial.state) trial.frame = rw m.exploring.number s in
        (rw (← m.exploring.number) (one_stored m nowhere refl more after s'), same_record m nowhere refl more after s' trial.state (inside m))

-- The search goes on
module _ {code : Code} {table : List ℕ} {k b ended : ℕ} where
  module _ {stored : Option ℕ} (e : Exploring code table k b ended stored) where
    -- the byte is passed over
    pub to_next_byte : GoodCode code → (passed : List Bool) → PassesOver code passed → get_or passed b false ≡ true → k < ended → b < frame_bytes
        → Exploring code table k (b + 1) ended stored
    unfolding steps_over
    to_next_byte good passed passes own more byte =
        let c = clip_at e.clips k in
        let (x, less, alike) = passed_alike code passed passes b byte own in
        same_records e stored e.number (passed_turn _ _ _ _ _ _ _ _ _ e.searching more byte x less (rw (alike (start (steps_over code c))))
        (λ hit. sym (output_step code good x c) ∙ rw (alike (start (steps_over code c))) (output_step code good b c) ∙ hit))

    -- all bytes are tried with a state
    pub to_next_state : k < ended → b ≡ frame_bytes → Exploring code table (k + 1) 0 ended stored
    to_next_state more all = same_records e stored e.number (next_state _ _ _ _ _ _ _ _ _ e.searching more all)

    -- a trial satisfies
    pub to_met : GoodCode code → k < ended → b < frame_bytes → ((s : Registers) → Keeps (record_at table k) s → (advanced_by code b s).bit ≡ true)
        → Met code table (record { state = k; frame = b }) ended
    unfolding advanced_by
    to_met good more byte hit =
        let there : k < length e.clips = omega (arith, e.searching.begun) in
        let out : Outputs code (b ∷ clip_at e.clips k) = sym (output_step code good b (clip_at e.clips k)) ∙ hit _ (e.keeps k there) in
        record {
          clip = clip_at e.clips k;
          inside = omega (arith, e.searching.inside);
          shows = e.shows k there;
          right = ends_met _ _ _ (stepwise code good) _ _ _ _ _ _ e.searching more byte out;
        }

  -- all clips of a length are tried
  module _ (done : k ≡ ended) where
    module _ (count : ℕ) (e : Exploring code table k b ended (Some count)) where
      -- there are new states
      pub to_next_length : Exploring code table k b count (Some count)
      to_next_length = same_records e {frames = e.frames + 1} (Some count) e.number (rw (← e.number) (next_length _ _ _ _ _ _ _ _ _ e.searching done refl))

      -- there are none
      pub to_none : GoodCode code → count ≡ ended → Right (steps_over code) (Outputs code) (room_in table) (none ended)
      to_none good all = ends_none _ _ _ (stepwise code good) _ _ _ _ _ _ e.searching done refl (sym all ∙ sym e.number)

    -- there is one for which there is no record
    pub to_no_room : Exploring code table k b ended None → GoodCode code → Right (steps_over code) (Outputs code) (room_in table) no_room
    to_no_room e good = ends_full _ _ _ (stepwise code good) _ _ _ _ _ _ e.searching done refl

-- The fresh state is stored
pub to_begin : (code : Code) (table after : List ℕ) → HasRoom table → Indexed table 0 → 1 ≤ room_in table → (r : Registers) → r ≡ fresh_registers
    → Stores table after 0 r None 0 → Exploring code after 0 0 1 (Some 1)
unfolding Shows steps_over
to_begin code table after holds empty some r fresh s =
    record {
      clips = [] ∷ [];
      frames = 0;
      number = refl;
      holds = room_kept table after s.same holds;
      indexed = s.indexed empty;
      keeps = only (λ i c. Keeps (record_at after i) (steps_over code c)) (subst (Keeps (record_at after 0)) fresh s.written.keeps);
      shows = only (Shows after) s.written.own_link;
      searching = as_long_search code table after s.same (begins _ _ _ some);
    }
  where
    only : (P : ℕ → Clip → Type 0) → P 0 [] → (i : ℕ) → i < 1 → P i (clip_at ([] ∷ []) i)
    only P p zero h = p
    only P p (suc i) h = absurd (omega arith)
