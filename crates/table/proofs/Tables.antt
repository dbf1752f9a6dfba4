-- Records of a table as parts of its bytes: the part that a function lends is the record, and a part that is put back leaves the other records as they were. A
-- look-up walks down the chain of the key's bucket (`Looking`); a store writes a record and then its bucket's head, so the record goes in front of its bucket.
use mathlib.Core.Path.{◌≡◌, ap, sym, subst, ◌∙◌}
use mathlib.Core.Logic.{by_cases}
use mathlib.Core.List.{List, ◌++◌}
use Prim.Native.Nat.{ℕ, ◌+◌, ◌*◌, ◌-◌, ◌/◌, ◌<◌}
use native.Mathlib.Decide.{dec_lt, ℕ_discrete}
use native.Mathlib.Omega.{arith}
use borrow.Rule.Slice.PartMut.{mid_of, put_mid, same_len_mid, mid_len, drop_put}
use lib.ListN.{length, get_or, take, drop, length-take, length-drop, take-append-drop, get_or-eq_default}
use lib.Seq.{get_or-take, get_or-drop, length-take-le, take-append-le, drop-append-le, take_at, drop_at, drop-drop}
use Rattle.std.proofs.Common.{Option, Some, None}
use Rattle.ground.specs.Limits.{limits}
use Rattle.sequencer.specs.declared.registers.Registers.{Registers}
use Rattle.table.specs.Inner.Chains.{LastIn}
use Rattle.table.specs.Inner.Index.{bucket_of, bucket_at, head_at, chain_at, Indexed, IndexedBy}
use Rattle.table.specs.Inner.Records.{byte_at, Keeps, HasKey, link_place, chain_place, head_place, LinkWritten, Has, Written, record_at}
use Rattle.table.specs.Inner.Records.{room_in, frame_place}
use Rattle.table.specs.Inner.Tables.{HasRoom, Filled, Looks, CanStore, Stores}
use Rattle.table.proofs.Chains.{Down, height, last_lower, chained_none, walk_first, walk_more, chained_more}
use Rattle.table.proofs.Keys.{bucket_same, key_bucket}
use Rattle.table.proofs.Records.{key_kept, kept_key, link_same}

-- Where a record begins, and how long the part from there to its end is, as lending writes it
abbrev start_of : ℕ → ℕ
start_of n = n * limits.record_bytes

abbrev size_of : ℕ → ℕ
size_of n = start_of n + limits.record_bytes - start_of n

size_is : (n : ℕ) → size_of n ≡ limits.record_bytes
size_is n = omega arith

-- the part that is lent is the record
pub part_record : (table : List ℕ) (n : ℕ) → mid_of (start_of n) (size_of n) table ≡ record_at table n
part_record table n = rw (size_is n)

pub record_length : (table : List ℕ) (n : ℕ) → n < room_in table → length (record_at table n) ≡ limits.record_bytes
record_length table n h = length-take-le limits.record_bytes (drop (start_of n) table) (omega (arith, length-drop (start_of n) table))

-- a table that is as long is exactly its records too
pub room_kept : (before after : List ℕ) → length after ≡ length before → HasRoom before → HasRoom after
room_kept before after same holds = record { whole = omega (arith, holds.whole); most = omega (arith, holds.most) }

-- In a table of zeros every byte of a record is 0, so its index is empty
module _ (table : List ℕ) (zero : (j : ℕ) → get_or table j 0 ≡ 0) where
  zero_record : (n j : ℕ) → get_or (record_at table n) j 0 ≡ 0
  zero_record n j =
      by_cases (dec_lt j limits.record_bytes) (λ h. get_or-take limits.record_bytes (drop (start_of n) table) j 0 h ∙ get_or-drop (start_of n) table j 0
      ∙ zero (start_of n + j)) λ h.
      get_or-eq_default (record_at table n) 0 {n = j} (omega (arith, length-take limits.record_bytes (drop (start_of n) table)))

  pub indexed_none : Indexed table 0
  indexed_none =
      chained_none _ _ _ (room_in table)
      (λ b h. rw (zero_record b head_place, zero_record b (head_place + 1), zero_record b (head_place + 2)))

-- A look-up on its way down the chain of a key's bucket: it is at the next record, if any, and none that it has passed keeps the key's registers
pub record Looking (table key : List ℕ) (bucket : ℕ) (next : Option ℕ) : Type 0 where
  pub own : bucket ≡ bucket_of (room_in table) (byte_at key)
  pub walk : (r : Registers) → Keeps key r → (stored : ℕ) → Filled table stored
      → Down (λ n. bucket_at (room_in table) table n ≡ bucket) (λ n. Keeps (record_at table n) r) stored next

module _ (table key : List ℕ) (bucket : ℕ) where
  -- all records that keep the key's registers are in its bucket
  in_bucket : bucket ≡ bucket_of (room_in table) (byte_at key) → (r : Registers) → Keeps key r → (n : ℕ) → Keeps (record_at table n) r
      → bucket_at (room_in table) table n ≡ bucket
  in_bucket e r k n keeps = key_bucket r key k (record_at table n) (room_in table) keeps ∙ sym e

  pub looking_first : (next : Option ℕ) → bucket ≡ bucket_of (room_in table) (byte_at key) → bucket < room_in table → next ≡ head_at table bucket
      → Looking table key bucket next
  looking_first next e inside head =
      record {
        own = e;
        walk = λ r k stored filled. rw head (walk_first (λ n h. in_bucket e r k n) (head_at table bucket) (filled.indexed.heads bucket inside));
      }

  pub looks_none : {next : Option ℕ} → Looking table key bucket next → next ≡ None → (r : Registers) → Keeps key r → (stored : ℕ) → Filled table stored
      → Looks table stored r None
  looks_none w is r k stored filled = rw is at (w.walk r k stored filled)

  module _ {next : Option ℕ} {n : ℕ} (w : Looking table key bucket next) (is : next ≡ Some n) where
    module _ (r : Registers) (k : Keeps key r) (stored : ℕ) (filled : Filled table stored) where
      -- the walk is at a record
      here : Down (λ m. bucket_at (room_in table) table m ≡ bucket) (λ m. Keeps (record_at table m) r) stored (Some n)
      here = rw is at (w.walk r k stored filled)

      -- the record before it in its bucket
      before : LastIn (bucket_at (room_in table) table) bucket n (chain_at table n)
      before = subst (λ b. LastIn (bucket_at (room_in table) table) b n (chain_at table n)) here.1 (filled.indexed.links n here.0)

      pub looking_less : (more : Option ℕ) → more ≡ chain_at table n → height more < height next
      looking_less more chain = rw (chain, is) (omega (arith, last_lower _ (chain_at table n) before))

    pub looks_some : HasKey key (record_at table n) → (r : Registers) → Keeps key r → (stored : ℕ) → Filled table stored → Looks table stored r (Some n)
    looks_some same r k stored filled = let (less, own, passed) = here r k stored filled in (less, key_kept k same, passed)

    pub looking_more : (more : Option ℕ) → (HasKey key (record_at table n) → ⊥) → more ≡ chain_at table n → Looking table key bucket more
    looking_more more miss chain =
        record {
          own = w.own;
          walk = λ r k stored filled. rw chain (walk_more (λ m h. in_bucket w.own r k m) (here r k stored filled) (λ keeps. miss (kept_key k keeps))
              (chain_at table n) (before r k stored filled));
        }

-- Bytes put in the place of a record, as lending writes it
abbrev put : List ℕ → ℕ → List ℕ → List ℕ
put xs n ys = put_mid (start_of n) (size_of n) xs ys

-- a record of bytes that are put together where record n begins: n itself, and those before it
module _ (p q : List ℕ) (n : ℕ) (seam : length p ≡ start_of n) where
  record_behind : (own : List ℕ) → length own ≡ limits.record_bytes → record_at (p ++ (own ++ q)) n ≡ own
  record_behind own l = rw (drop_at p (own ++ q) (start_of n) seam) (take_at own q limits.record_bytes l)

  record_before : (m : ℕ) → m < n → record_at (p ++ q) m ≡ record_at p m
  record_before m h = let a = start_of m in
      rw (drop-append-le a p q (omega arith)) (take-append-le limits.record_bytes (drop a p) q (omega (arith, length-drop a p)))

module _ (xs ys : List ℕ) (n : ℕ) (inside : n < room_in xs) (whole : length ys ≡ limits.record_bytes) where
  seam : length (take (start_of n) xs) ≡ start_of n
  seam = length-take-le (start_of n) xs (omega arith)

  -- that record is what is put there
  put_own : record_at (put xs n ys) n ≡ ys
  put_own = record_behind (take (start_of n) xs) _ n seam ys whole

  put_below : (m : ℕ) → m < n → record_at (put xs n ys) m ≡ record_at xs m
  put_below m h =
      let p = take (start_of n) xs in
      record_before p _ n seam m h ∙ sym (rw take-append-drop at (record_before p (drop (start_of n) xs) n seam m h))

  put_above : (m : ℕ) → n < m → record_at (put xs n ys) m ≡ record_at xs m
  put_above m h =
      let e = start_of n + limits.record_bytes in
      let d = start_of m - e in
      let far : e + d ≡ start_of m = omega arith in
      let behind : drop e (put xs n ys) ≡ drop e xs = drop_put (start_of n) e xs ys (omega arith) (omega arith) (omega (arith, size_is n)) in
      rw (← far, ← drop-drop d e (put xs n ys), ← drop-drop d e xs, behind)

  -- and the others are as they were
  put_other : (m : ℕ) → (m ≡ n → ⊥) → record_at (put xs n ys) m ≡ record_at xs m
  put_other m other = by_cases (dec_lt m n) (put_below m) λ high. put_above m (omega arith)

  put_length : length (put xs n ys) ≡ length xs
  put_length = same_len_mid (start_of n) (size_of n) xs ys (omega (arith, mid_len (start_of n) (start_of n + limits.record_bytes) xs (omega arith)))

-- What writing the head of a bucket leaves: of its record the bytes in front, and all other records
module _ (xs ys : List ℕ) (b : ℕ) (link : Option ℕ) (inside : b < room_in xs) (w : LinkWritten head_place link (record_at xs b) ys) where
  head_whole : length ys ≡ limits.record_bytes
  head_whole = w.same ∙ record_length xs b inside

  head_below : (m j : ℕ) → j < head_place → get_or (record_at (put xs b ys) m) j 0 ≡ get_or (record_at xs m) j 0
  head_below m j h = by_cases (ℕ_discrete m b) (λ e. rw (e, put_own xs ys b inside head_whole) (w.below j h)) λ other.
      rw (put_other xs ys b inside head_whole m other)

  head_own : head_at (put xs b ys) b ≡ link
  head_own = rw (put_own xs ys b inside head_whole) w.own

  head_other : (m : ℕ) → (m ≡ b → ⊥) → head_at (put xs b ys) m ≡ head_at xs m
  head_other m other = rw (put_other xs ys b inside head_whole m other)

-- What a store leaves: ys are the record that is written, zs that of the bucket's head
module _ (xs ys zs key : List ℕ) (n b frame : ℕ) (link chain : Option ℕ) (r : Registers) (can : CanStore xs n link) (k : Keeps key r)
    (own : b ≡ bucket_of (room_in xs) (byte_at key)) (b-inside : b < room_in xs) (old_head : chain ≡ head_at xs b)
    (w : Written key link frame chain (record_at xs n) ys) (h : LinkWritten head_place (Some n) (record_at (put xs n ys) b) zs) where
  inside : n < room_in xs
  inside = can.inside

  whole : length ys ≡ limits.record_bytes
  whole = w.same ∙ record_length xs n inside

  head_inside : b < room_in (put xs n ys)
  head_inside = rw (put_length xs ys n inside whole) b-inside

  abbrev end : List ℕ
  end = put (put xs n ys) b zs

  -- the new record, in front of its head
  new_below : (j : ℕ) → j < head_place → get_or (record_at end n) j 0 ≡ get_or ys j 0
  new_below j l = head_below (put xs n ys) zs b (Some n) head_inside h n j l ∙ ap (λ x. get_or x j 0) (put_own xs ys n inside whole)

  -- another record, in front of its head
  old_below : (m : ℕ) → m < n → (j : ℕ) → j < head_place → get_or (record_at end m) j 0 ≡ get_or (record_at xs m) j 0
  old_below m less j l = head_below (put xs n ys) zs b (Some n) head_inside h m j l ∙ ap (λ x. get_or x j 0)
      (put_other xs ys n inside whole m (λ e. omega arith))

  -- the record's own write leaves all heads
  heads_same : (m : ℕ) → head_at (put xs n ys) m ≡ head_at xs m
  heads_same m = by_cases (ℕ_discrete m n)
      (λ e. rw (e, put_own xs ys n inside whole) (link_same head_place ys (record_at xs n) (λ j l u. w.behind j l)))
      λ other. rw (put_other xs ys n inside whole m other)

  has : Has (record_at end n) r link frame
  has =
      record {
        keeps = key_kept k (λ j l. new_below j (omega arith) ∙ w.own_key j l);
        own_link = link_same link_place (record_at end n) ys (λ j l u. new_below j (omega arith)) ∙ w.own_link;
        own_frame = new_below frame_place (omega arith) ∙ w.own_frame;
      }

  same : length end ≡ length xs
  same = put_length (put xs n ys) zs b head_inside (head_whole (put xs n ys) zs b (Some n) head_inside h) ∙ put_length xs ys n inside whole

  more : Indexed xs n → IndexedBy (room_in xs) end (n + 1)
  more indexed =
      chained_more indexed (bucket_at (room_in xs) end) (head_at end) (chain_at end) b
      (λ m l. bucket_same (room_in xs) (record_at end m) (record_at xs m) (λ j i. old_below m l j (omega arith)))
      (λ m l. link_same chain_place (record_at end m) (record_at xs m) (λ j i u. old_below m l j (omega arith)))
      (key_bucket r key k (record_at end n) (room_in xs) has.keeps ∙ sym own)
      b-inside
      (link_same chain_place (record_at end n) ys (λ j l u. new_below j (omega arith)) ∙ w.own_chain ∙ old_head)
      (head_own (put xs n ys) zs b (Some n) head_inside h)
      (λ x l other. head_other (put xs n ys) zs b (Some n) head_inside h x other ∙ heads_same x)

  pub stores : Stores xs end n r link frame
  stores =
      record {
        written = has;
        others = λ m l j i. old_below m l j (omega arith);
        indexed = λ indexed. subst (λ size. IndexedBy (size / limits.record_bytes) end (n + 1)) (sym same) (more indexed);
        same = same;
      }
