-- Writing the witness: from a state the links lead through the records of its clip, whose frame bytes come in frame order. `Walks` says what is written and
-- where the walk stands.
use mathlib.Core.Path.{◌≡◌, refl, sym, ap, subst, ◌∙◌}
use mathlib.Core.List.{List, [], ◌∷◌, ◌++◌, append_assoc, append-nil}
use Prim.Native.Nat.{ℕ, suc, ◌+◌, ◌≤◌, ◌<◌}
use native.Mathlib.Numerals.{add-one}
use native.Mathlib.Omega.{arith}
use lib.ListN.{length, set, length-append, length-set}
use lib.Seq.{drop-set-lt}
use Rattle.std.proofs.Common.{Some, None}
use Rattle.std.proofs.lemmas.Option.{none-some}
use Rattle.ground.specs.Buffers.{over}
use Rattle.ground.specs.Frames.{Clip}
use Rattle.ground.specs.Limits.{limits}
use Rattle.ground.proofs.Buffers.{over_more}
use Rattle.table.specs.Inner.Records.{link_in, frame_in, record_at, room_in}
use Rattle.finder.specs.Inner.Search.{CanShow, Showing}
use Rattle.finder.specs.Inner.Explore.{Shows}
use Rattle.finder.specs.declared.explore.Trial.{Trial}

-- A record shows one clip
shows_one : (table : List ℕ) (n : ℕ) (c d : Clip) → Shows table n c → Shows table n d → c ≡ d
unfolding Shows
shows_one table n [] [] h k = refl
shows_one table n [] (y ∷ d) h k = absurd (none-some _ (sym h ∙ k.2))
shows_one table n (x ∷ c) [] h k = absurd (none-some _ (sym k ∙ h.2))
shows_one table n (x ∷ c) (y ∷ d) h k =
    let (frame, m, link, less, rest) = h in
    let (frame', m', link', less', rest') = k in
    let e : m' ≡ m = cc (link, link') in
    cc (frame, frame', shows_one table m c d rest (subst (λ i. Shows table i d) e rest'))

-- So many frames are written: the first of those that lead from a state, with a frame in front; the others lead from where the walk stands
pub record Walks (table : List ℕ) (trial : Trial) (before after : List ℕ) (n at : ℕ) : Type 0 where
  pub clip : Clip
  pub shows : Shows table trial.state clip
  pub room : length clip + 1 ≤ length before
  pub done : Clip
  pub rest : Clip
  pub parts : done ++ rest ≡ trial.frame ∷ clip
  pub many : length done ≡ n
  pub leads : Shows table at rest
  pub inside : at < room_in table
  pub most : n + at ≤ limits.records
  pub written : after ≡ over done before
  pub same : length after ≡ length before

-- The frame in front stands first
pub walks_first : (table : List ℕ) (trial : Trial) (witness : List ℕ) → CanShow table trial witness
    → Walks table trial (set witness 0 trial.frame) (set witness 0 trial.frame) 1 trial.state
walks_first table trial witness s =
    record {
      clip = s.clip;
      shows = s.shows;
      room = omega (arith, s.room, length-set witness 0 trial.frame);
      done = trial.frame ∷ [];
      rest = s.clip;
      parts = refl;
      many = refl;
      leads = s.shows;
      inside = s.inside;
      most = omega (arith, s.inside, s.holds.most);
      written = stands witness (omega (arith, s.room));
      same = refl;
    }
  where
    stands : (xs : List ℕ) → 1 ≤ length xs → set xs 0 trial.frame ≡ over (trial.frame ∷ []) (set xs 0 trial.frame)
    stands [] h = absurd (omega arith)
    stands (x ∷ xs) h = refl

module _ (table : List ℕ) (trial : Trial) (before : List ℕ) {after : List ℕ} {n at : ℕ} (w : Walks table trial before after n at) where
  -- The walk goes on to a record before this one
  module _ (from : ℕ) (link : Some from ≡ link_in (record_at table at)) where
    record NextFrame : Type 0 where
      pub head : ℕ
      pub tail : Clip
      pub own : w.rest ≡ head ∷ tail
      pub own_frame : frame_in (record_at table at) ≡ head
      pub less : from < at
      pub leads : Shows table from tail

    next : NextFrame
    unfolding Shows
    next = of w.rest refl w.leads
      where
        of : (rest : Clip) → w.rest ≡ rest → Shows table at rest → NextFrame
        of [] e h = absurd (none-some _ (sym h ∙ sym link))
        of (x ∷ c) e h =
            let (own_frame, m, link-is, less, leads) = h in
            let same : m ≡ from = cc (link, link-is) in
            record {
              head = x;
              tail = c;
              own = e;
              own_frame = own_frame;
              less = omega arith;
              leads = subst (λ i. Shows table i c) same leads;
            }

    pub walks_room : n < length after
    walks_room =
        let l = length-append w.done w.rest in
        let e = ap length w.parts in
        let o = ap length next.own in
        omega (arith, w.many, w.room, w.same)

    pub walks_less : from < at
    walks_less = next.less

    pub walks_inside : from < room_in table
    walks_inside = omega (arith, next.less, w.inside)

    pub walks_more : (x : ℕ) → x ≡ frame_in (record_at table at) → Walks table trial before (set after n x) (n + 1) from
    walks_more x own =
        let head : x ≡ next.head = own ∙ next.own_frame in
        record {
          clip = w.clip;
          shows = w.shows;
          room = w.room;
          done = w.done ++ x ∷ [];
          rest = next.tail;
          parts = append_assoc w.done (x ∷ []) next.tail ∙ rw (head, ← next.own) w.parts;
          many = simp length-append (ap (◌+ 1) w.many);
          leads = next.leads;
          inside = walks_inside;
          most = omega (arith, w.most, next.less);
          written = rw w.written (over_more w.done before n x w.many (omega (arith, walks_room, w.same)));
          same = length-set after n x ∙ w.same;
        }

  -- The walk is at the fresh state's record
  pub walks_all : None ≡ link_in (record_at table at) → (witness : List ℕ) → before ≡ set witness 0 trial.frame → Showing table trial witness after n
  unfolding Shows
  walks_all end witness start clip shows =
      let one : w.clip ≡ clip = shows_one table trial.state w.clip clip w.shows shows in
      let whole : w.done ≡ trial.frame ∷ clip =
      sym (append-nil w.done) ∙ ap (w.done ++◌) (sym (none w.rest w.leads)) ∙ w.parts ∙ ap (trial.frame ∷◌) one in (
        sym w.many ∙ ap length whole ∙ sym (add-one (length clip)),
        w.written ∙ rw (whole, start, drop-set-lt (suc (length clip)) witness 0 trial.frame (omega arith)),
      )
    where
      none : (rest : Clip) → Shows table at rest → rest ≡ []
      none [] h = refl
      none (x ∷ c) h = absurd (none-some _ (end ∙ h.2))
