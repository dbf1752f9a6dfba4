-- Reading bytes item by item, for any kind of items. `Turn` says where a loop stands: what reading gives from here on, after these items, is what it gives of
-- all the bytes; each way out of a turn is a law. And bytes and items determine each other: items that are read stand there by their bytes, one behind the
-- other, and items whose bytes stand there, each fine by the check in its turn, are read. A refusal has its item's place, behind the items before it.
use mathlib.Core.Path.{◌≡◌, refl, sym, ap, subst, ◌∙◌}
use mathlib.Core.List.{List, [], ◌∷◌, ◌++◌, append_assoc, append-nil}
use mathlib.Core.Logic.{◌⊎◌, inl, inr, ⊎_elim, by_cases}
use Prim.Native.Nat.{ℕ, zero, suc, ◌+◌, ◌-◌, ◌≤◌, ◌<◌}
use native.Mathlib.Decide.{dec_lt}
use native.Mathlib.Omega.{arith}
use lib.ListN.{length, length-append, drop_of_length-le}
use Rattle.ground.specs.Buffers.{AllBytes}
use Rattle.ground.specs.Each.{Each}
use Rattle.reading.specs.InTurn.{Outcome, fine, bad, Kind, AllRead, items, refused, after_read, after_checked, in_turn, read_all, bytes_of_all}
use Rattle.std.specs.Prelude.{None, Some, Ok, Err}
use Rattle.reading.specs.Items.{AtPlace, item_at, item_read, item_bytes, numbers_of, no_code}
use Rattle.ground.specs.Refusals.{place_of}
use Rattle.reading.specs.declared.item.Table.{Table}
use Rattle.ground.specs.declared.refusal.Refusal.{Refusal}
use Rattle.reading.proofs.Bytes.{Stands, Fitting, item_there, item_back, joined, parted}
use Rattle.reading.proofs.Items.{ended, end_back, refused_place}

-- what is read before the end lies before it
before_end : (table : Table) (bytes : List ℕ) (at : ℕ) → (Ok None ≡ item_at table bytes at → ⊥) → at < length bytes
before_end table bytes at h =
    by_cases (dec_lt at (length bytes)) (λ l. l) (λ l. absurd (h (ended table bytes at (omega arith))))

-- an item takes a byte at least
pub forward : (table : Table) (bytes : List ℕ) (at code i j k next : ℕ) → AllBytes bytes → item_read code i j k next ≡ item_at table bytes at → at < next
unfolding item_bytes
forward table bytes at code i j k next small is =
    let (fits, stands) = item_back table bytes at code i j k next small (sym is) in
    omega arith

pub item_inside : (table : Table) (bytes : List ℕ) (at code i j k next : ℕ) → item_read code i j k next ≡ item_at table bytes at → at < length bytes
item_inside table bytes at code i j k next is =
    before_end table bytes at (λ h. let z : ◌≡◌ {A = ℕ} 0 1 = cc in omega arith)

-- where reading stands: at a place, behind these items, with turns enough for the bytes that are left
pub record Turn {A : Type 0} (kind : Kind A) (bytes : List ℕ) (at : ℕ) (is : List A) : Type 0 where
  pub turns : ℕ
  pub enough : length bytes - at ≤ turns
  pub rest : in_turn kind turns bytes at is ≡ read_all kind bytes

module _ {A : Type 0} (kind : Kind A) where
  -- no byte is refused
  pub none_refused : (bytes : List ℕ) → length bytes ≡ 0 → refused Refusal.Empty ≡ read_all kind bytes
  unfolding read_all
  none_refused [] h = refl
  none_refused (b ∷ bytes) h = absurd (omega arith)

  pub turn_first : (bytes : List ℕ) → (length bytes ≡ 0 → ⊥) → Turn kind bytes 0 []
  unfolding read_all
  turn_first [] h = absurd (h refl)
  turn_first (b ∷ bytes) h = record { turns = length (b ∷ bytes); enough = omega arith; rest = refl }

  module _ (bytes : List ℕ) (at : ℕ) (is : List A) (t : Turn kind bytes at is) where
    pub turn_end : Ok None ≡ item_at kind.table bytes at → items is ≡ read_all kind bytes
    unfolding in_turn
    turn_end e = go t.turns t.rest
      where
        go : (n : ℕ) → in_turn kind n bytes at is ≡ read_all kind bytes → items is ≡ read_all kind bytes
        go zero r = r
        go (suc n) r = rw (← e) at r

    -- a turn is left for an item or a refusal
    one_left : (Ok None ≡ item_at kind.table bytes at → ⊥) → (m : ℕ) × (t.turns ≡ suc m)
    one_left h = go t.turns t.enough
      where
        go : (n : ℕ) → length bytes - at ≤ n → (m : ℕ) × (n ≡ suc m)
        go zero l = absurd (omega (arith, before_end kind.table bytes at h))
        go (suc m) l = (m, refl)

    pub turn_refused : (r : Refusal) → Err r ≡ item_at kind.table bytes at → refused r ≡ read_all kind bytes
    unfolding in_turn
    turn_refused r e =
        let n = one_left (λ h. let z : ◌≡◌ {A = ℕ} 0 1 = cc in omega arith) in
        rw (n.1, ← e) at t.rest

    module _ (code i j k next : ℕ) (read : item_read code i j k next ≡ item_at kind.table bytes at) (item : A) (own : item ≡ kind.make code i j k) where
      left : (m : ℕ) × (t.turns ≡ suc m)
      left = one_left (λ h. let z : ◌≡◌ {A = ℕ} 0 1 = cc in omega arith)

      pub turn_checked : (r : Refusal) → bad r ≡ kind.check is at item → refused r ≡ read_all kind bytes
      unfolding in_turn
      turn_checked r e = rw (left.1, ← read, ← own, ← e) at t.rest

      pub turn_more : fine ≡ kind.check is at item → at < next → Turn kind bytes next (is ++ item ∷ [])
      unfolding in_turn
      turn_more e h =
          record {
            turns = left.0;
            enough = omega (arith, t.enough, left.1);
            rest = rw (left.1, ← read, ← own, ← e) at t.rest;
          }

-- a refusal of the item at a place has this place
abbrev pub Placed : ℕ → Outcome → Type 0
Placed at fine = Unit {0}
Placed at (bad r) = place_of r ≡ at

-- each of these items is fine by the check, wherever it stands, after those before it
abbrev pub Passes : {A : Type 0} → Kind A → List A → List A → Type 0
Passes kind before [] = Unit {0}
Passes kind before (i ∷ is) = ((at : ℕ) → kind.check before at i ≡ fine) × Passes kind (before ++ i ∷ []) is

-- the code byte and the numbers of which an item is made, and whose bytes are its own
pub record Numbered {A : Type 0} (kind : Kind A) (own : A → List ℕ) (item : A) : Type 0 where
  pub code : ℕ
  pub first : ℕ
  pub second : ℕ
  pub third : ℕ
  pub fits : Fitting kind.table code first second third
  pub makes : kind.make code first second third ≡ item
  pub same : item_bytes kind.table code first second third ≡ own item

-- the bytes of items behind items
pub bytes_append : {A : Type 0} (own : A → List ℕ) (is js : List A) → bytes_of_all own (is ++ js) ≡ bytes_of_all own is ++ bytes_of_all own js
unfolding bytes_of_all
bytes_append own [] js = refl
bytes_append own (i ∷ is) js = rw (bytes_append own is js, append_assoc)

module _ {A : Type 0} (kind : Kind A) (own : A → List ℕ) where
  module _ (P : List A → Type 0) (none : P [])
      (more : (is : List A) (at : ℕ) (i : A) → P is → kind.check is at i ≡ fine → P (is ++ i ∷ []))
      (same : (code i j k : ℕ) → numbers_of kind.table code < no_code → item_bytes kind.table code i j k ≡ own (kind.make code i j k)) where
    module _ (bytes : List ℕ) (small : AllBytes bytes) where
      -- the items so far have the property, and their bytes are those before the place
      record SoFar (at : ℕ) (is : List A) : Type 0 where
        holds : P is
        stands : Stands bytes 0 (bytes_of_all own is) at

      -- at a place behind some items the reader refuses, or the check does
      record Stop (r : Refusal) : Type 0 where
        at : ℕ
        before : List A
        so_far : SoFar at before
        why : (item_at kind.table bytes at ≡ Err r) ⊎ ((i : A) × (kind.check before at i ≡ bad r))

      -- how reading comes out: at the end the bytes of the items so far are all the bytes
      abbrev Ends : AllRead A → Type 0
      Ends (items js) = P js × (bytes ≡ bytes_of_all own js)
      Ends (refused r) = Stop r

      at_end_lem : (at : ℕ) (is : List A) → SoFar at is → length bytes ≤ at → Ends (items is)
      at_end_lem at is s h = (s.holds, s.stands.here ∙ rw (drop_of_length-le bytes h, append-nil))

      from : (n at : ℕ) (is : List A) → SoFar at is → length bytes - at ≤ n → Ends (in_turn kind n bytes at is)
      unfolding in_turn bytes_of_all
      from zero at is s h = at_end_lem at is s (omega arith)
      from (suc n) at is s h = read (from n) (item_at kind.table bytes at) refl
        where
          checked : (i : A) (rest : AllRead A) (v : Outcome) → kind.check is at i ≡ v → (v ≡ fine → Ends rest) → Ends (after_checked v rest)
          checked i rest fine e on = on refl
          checked i rest (bad r) e on = record { at = at; before = is; so_far = s; why = inr (i, e) }

          read : ((next : ℕ) (js : List A) → SoFar next js → length bytes - next ≤ n → Ends (in_turn kind n bytes next js))
              → (r : AtPlace) → item_at kind.table bytes at ≡ r
              → Ends (after_read r (items is) λ code i j k next.
              after_checked (kind.check is at (kind.make code i j k)) (in_turn kind n bytes next (is ++ kind.make code i j k ∷ [])))
          read on (Ok (Some r)) e =
              let code = r.code in
              let i = r.first in
              let j = r.second in
              let k = r.third in
              let next = r.next in
              let item = kind.make code i j k in
              let (fits, stands) = item_back kind.table bytes at code i j k next small e in
              let all : Stands bytes 0 (bytes_of_all own (is ++ item ∷ [])) next =
              rw (bytes_append, append-nil) (joined bytes 0 s.stands (rw (same code i j k fits.known) at stands)) in
              checked item _ (kind.check is at item) refl λ f.
              on next (is ++ item ∷ []) (record { holds = more is at item s.holds f; stands = all })
              (omega (arith, forward kind.table bytes at code i j k next small (sym e)))
          read on (Ok None) e = at_end_lem at is s (end_back kind.table bytes at e)
          read on (Err r) e = record { at = at; before = is; so_far = s; why = inl e }

      all_turns : (length bytes ≡ 0 → ⊥) → Ends (read_all kind bytes)
      unfolding bytes_of_all
      all_turns h =
          let t = turn_first kind bytes h in
          let start : Stands bytes 0 [] 0 = record { here = refl; behind = refl; inside = omega arith } in
          subst Ends t.rest (from t.turns 0 [] (record { holds = none; stands = start }) t.enough)

    -- the items that are read: one at least, with a property that each item that the check finds fine keeps, and their bytes are all the bytes
    pub all_back : (bytes : List ℕ) (is : List A) → AllBytes bytes → read_all kind bytes ≡ items is → P is × (bytes ≡ bytes_of_all own is) × (1 ≤ length is)
    unfolding bytes_of_all
    all_back [] is small e = absurd (let z : ◌≡◌ {A = ℕ} 0 1 = cc (none_refused kind [] refl) in omega arith)
    all_back (b ∷ bytes) is small e =
        let (p, all) = subst (Ends (b ∷ bytes) small) e (all_turns (b ∷ bytes) small (λ h. omega arith)) in
        (p, all, some is all)
      where
        some : (js : List A) → b ∷ bytes ≡ bytes_of_all own js → 1 ≤ length js
        some [] e = absurd (omega (arith, ap length e))
        some (i ∷ js) e = omega arith

    -- a refusal lies no further than items with the property have bytes
    pub all_place : (most : ℕ) → ((is : List A) → P is → length (bytes_of_all own is) ≤ most)
        → ((is : List A) (at : ℕ) (i : A) → Placed at (kind.check is at i))
        → (bytes : List ℕ) (r : Refusal) → AllBytes bytes → read_all kind bytes ≡ refused r → place_of r ≤ most
    all_place most few placed [] r small e = let empty : r ≡ Refusal.Empty = cc (none_refused kind [] refl) in rw empty (omega arith)
    all_place most few placed (b ∷ bytes) r small e =
        let s = subst (Ends (b ∷ bytes) small) e (all_turns (b ∷ bytes) small (λ h. omega arith)) in
        let place : place_of r ≡ s.at =
        ⊎_elim (refused_place kind.table (b ∷ bytes) s.at r) (λ q. subst (Placed s.at) q.1 (placed s.before s.at q.0)) s.why in
        omega (arith, few s.before s.so_far.holds)

  -- an item has a byte at least, so the turns suffice
  turns_suffice : (is : List A) → Each (Numbered kind own) is → length is ≤ length (bytes_of_all own is)
  unfolding bytes_of_all item_bytes
  turns_suffice [] e = omega arith
  turns_suffice (i ∷ is) e =
      simp length-append (omega (arith, ap length e.0.same, turns_suffice is e.1))

  -- what the check alone gives of the items that stand ahead at a place, after those before them
  abbrev pub checked_from : ℕ → List A → List A → AllRead A
  checked_from at before [] = items before
  checked_from at before (i ∷ is) = after_checked (kind.check before at i) (checked_from (at + length (own i)) (before ++ i ∷ []) is)

  -- turn by turn the items that stand ahead are read
  ahead : (bytes : List ℕ) (n at : ℕ) (is js : List A) → length js ≤ n → Stands bytes at (bytes_of_all own js) (length bytes) → Each (Numbered kind own) js
      → in_turn kind n bytes at is ≡ checked_from at is js
  unfolding in_turn bytes_of_all
  ahead bytes zero at is [] h s e = refl
  ahead bytes (suc n) at is [] h s e = rw (← ended kind.table bytes at (omega arith))
  ahead bytes zero at is (i ∷ js) h s e = absurd (omega arith)
  ahead bytes (suc n) at is (i ∷ js) h s e =
      let m = e.0 in
      let (here, behind) = parted bytes at (own i) (bytes_of_all own js) s in
      let read = item_there kind.table bytes at m.code m.first m.second m.third (at + length (own i)) m.fits (rw m.same here) in
      rw (read, m.makes) (ap (after_checked (kind.check is at i)) (ahead bytes n (at + length (own i)) (is ++ i ∷ []) js (omega arith) behind e.1))

  -- so of the bytes of items there is what the check gives of these
  pub all_checked : (is : List A) → 1 ≤ length is → Each (Numbered kind own) is → read_all kind (bytes_of_all own is) ≡ checked_from 0 [] is
  all_checked is some e =
      let bytes = bytes_of_all own is in
      let t = turn_first kind bytes (λ h. omega (arith, turns_suffice is e)) in
      let s : Stands bytes 0 bytes (length bytes) =
      record {
        here = rw (drop_of_length-le bytes {i = length bytes} (omega arith), append-nil);
        behind = omega arith;
        inside = omega arith;
      } in
      sym t.rest ∙ ahead bytes t.turns 0 [] is (omega (arith, t.enough, turns_suffice is e)) s e

  -- items that pass stay
  checked_there : (at : ℕ) (is js : List A) → Passes kind is js → checked_from at is js ≡ items (is ++ js)
  checked_there at is [] p = rw append-nil
  checked_there at is (i ∷ js) p = rw (p.0 at) (rw append_assoc at (checked_there (at + length (own i)) (is ++ i ∷ []) js p.1))

  -- the bytes of items that pass are read as these items
  pub all_there : (is : List A) → 1 ≤ length is → Passes kind [] is → Each (Numbered kind own) is → read_all kind (bytes_of_all own is) ≡ items is
  all_there is some p e = all_checked is some e ∙ checked_there 0 [] is p
