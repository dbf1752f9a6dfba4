-- Laws of `numbers_from` and `item_at`. `ReadingNumbers` is where `read_numbers` stands: what it has read is in its array, and the rest, read on from here,
-- the item.
use mathlib.Core.Path.{◌≡◌, refl, sym, subst, ◌∙◌}
use mathlib.Core.List.{List, [], ◌∷◌, ◌++◌, append-nil}
use mathlib.Core.Logic.{by_cases}
use Prim.Native.Nat.{ℕ, zero, suc, ◌+◌, ◌-◌, ◌≤◌, ◌<◌}
use native.Mathlib.Nat.{sub-zero}
use native.Mathlib.Decide.{dec_lt, ℕ_discrete}
use native.Mathlib.Omega.{arith}
use borrow.Author.Tests.{le-leb, lt-leb, ne_eqb}
use lib.ListN.{length, get_or, set, take, drop, replicate, length-append, length-take, drop_of_length-le}
use lib.Seq.{drop-cons}
use Rattle.ground.specs.Each.{Each}
use Rattle.std.specs.Prelude.{Option, None, Some, Result, Ok, Err}
use Rattle.reading.specs.Items.{most_numbers, CodeRow, AtPlace, look, item_at, item_read, numbers_from, numbers_of, no_code, if_known, with_number}
use Rattle.reading.specs.Numbers.{number_at, number_read, fault_at}
use Rattle.ground.specs.Padded.{padded}
use Rattle.ground.specs.Refusals.{place_of}
use Rattle.reading.specs.declared.item.Table.{Table}
use Rattle.reading.specs.declared.number.Number.{Number}
use Rattle.reading.specs.declared.number.Fault.{Fault}
use Rattle.reading.specs.declared.number.Fault.TheVariants.{Short, Long}
use Rattle.ground.specs.declared.refusal.Refusal.{Refusal}
use Rattle.ground.specs.declared.refusal.Refusal.TheVariants.{UnknownCode}
use Rattle.std.proofs.lemmas.List.{take-replicate, drop-replicate}
use Rattle.ground.proofs.Padded.{append_zeros, padded_none, set_padded}

-- an index of the first numbers of an array is below how many they are
pub one_of : (count k : ℕ) (array : List ℕ) → k < length (take count array) → k < count
one_of count k array h = let l = rw length-take at h in omega arith

module _ (bytes : List ℕ) (at code count : ℕ) where
  -- k numbers are read, and the next one would stand at `next`
  pub record ReadingNumbers (numbers : List ℕ) (next k : ℕ) : Type 0 where
    pub read : List ℕ
    pub so_many : k ≡ length read
    pub within : k ≤ count
    pub array : numbers ≡ padded count read
    pub rest : numbers_from (count - k) bytes at code read next ≡ numbers_from count bytes at code [] (at + 1)

  pub start : count < no_code → ReadingNumbers (take count (replicate most_numbers 0)) (at + 1) 0
  start small =
      record {
        read = [];
        so_many = refl;
        within = omega arith;
        array = take-replicate count most_numbers 0 (omega arith) ∙ sym (padded_none count);
        rest = rw sub-zero;
      }

  module _ {numbers : List ℕ} {next k : ℕ} (r : ReadingNumbers numbers next k) where
    -- the item, once all numbers are read
    pub whole : (array : List ℕ) → array ≡ numbers ++ drop count (replicate most_numbers 0) → count ≤ k
        → item_read code (get_or array 0 0) (get_or array 1 0) (get_or array 2 0) next ≡ numbers_from count bytes at code [] (at + 1)
    unfolding numbers_from padded
    whole array own h =
        let e : count - k ≡ 0 = omega (arith, r.within) in
        let n : count - length r.read ≡ 0 = omega (arith, r.so_many) in
        let all : array ≡ r.read ++ replicate (most_numbers - count) 0 = rw (own, r.array, n, append-nil, drop-replicate) in
        simp (all, append_zeros) (rw e at r.rest)

    module _ (wanted : k < count) where
      one_more : count - k ≡ suc (count - (k + 1))
      one_more = omega arith

      -- one more number
      pub more : (n behind : ℕ) → number_read n behind ≡ number_at bytes next → ReadingNumbers (set numbers k n) behind (k + 1)
      unfolding numbers_from
      more n behind e =
          record {
            read = r.read ++ n ∷ [];
            so_many = simp length-append (omega (arith, r.so_many));
            within = omega arith;
            array = rw (r.array, r.so_many, set_padded count r.read n (omega (arith, r.so_many)));
            rest = rw (one_more, ← e) at r.rest;
          }

      -- a number that can't be read refuses the item
      pub fault : (f : Fault) → Err f ≡ number_at bytes next → Err (fault_at at f) ≡ numbers_from count bytes at code [] (at + 1)
      unfolding numbers_from
      fault f e = rw (one_more, ← e) at r.rest

module _ (table : Table) (bytes : List ℕ) (at : ℕ) where
  pub ended : length bytes ≤ at → Ok None ≡ item_at table bytes at
  unfolding item_at
  ended h = rw (drop_of_length-le bytes h)

  module _ (inside : at < length bytes) where
    pub unknown : if_known (numbers_of table (get_or bytes at 0)) ≡ None → Err (UnknownCode at) ≡ item_at table bytes at
    unfolding item_at
    unknown e = by_cases (dec_lt (numbers_of table (get_or bytes at 0)) no_code)
        (λ t. absurd (let z : ◌≡◌ {A = ℕ} 0 1 = cc (rw (lt-leb no_code (numbers_of table (get_or bytes at 0)) t) at e) in omega arith))
        (λ t. rw (drop-cons bytes at 0 inside, le-leb no_code (numbers_of table (get_or bytes at 0)) (omega arith)))

    pub known : (count : ℕ) → if_known (numbers_of table (get_or bytes at 0)) ≡ Some count
        → numbers_from count bytes at (get_or bytes at 0) [] (at + 1) ≡ item_at table bytes at
    unfolding item_at
    known count e = by_cases (dec_lt (numbers_of table (get_or bytes at 0)) no_code)
        (λ t. let q : numbers_of table (get_or bytes at 0) ≡ count = cc (rw (lt-leb no_code (numbers_of table (get_or bytes at 0)) t) at e) in
        rw (drop-cons bytes at 0 inside, lt-leb no_code (numbers_of table (get_or bytes at 0)) t, q))
        (λ t. absurd (let z : ◌≡◌ {A = ℕ} 0 1 = cc (rw (le-leb no_code (numbers_of table (get_or bytes at 0)) (omega arith)) at e) in omega arith))

-- before the end stands an item, or a refusal that has the item's place
abbrev PlacedRead : ℕ → AtPlace → Type 0
PlacedRead at (Ok (Some read)) = Unit {0}
PlacedRead at (Ok None) = ⊥
PlacedRead at (Err r) = place_of r ≡ at

numbers_placed : (m : ℕ) (bytes : List ℕ) (at code : ℕ) (read : List ℕ) (next : ℕ) → PlacedRead at (numbers_from m bytes at code read next)
unfolding numbers_from
numbers_placed zero bytes at code read next = tt
numbers_placed (suc m) bytes at code read next = go (number_at bytes next) (λ n. numbers_placed m bytes at code (read ++ n ∷ []))
  where
    go : (x : Result Number Fault) → ((n behind : ℕ) → PlacedRead at (numbers_from m bytes at code (read ++ n ∷ []) behind))
        → PlacedRead at (with_number at x (λ n behind. numbers_from m bytes at code (read ++ n ∷ []) behind))
    go (Ok n) more = more n.value n.next
    go (Err Short) more = refl
    go (Err Long) more = refl

module _ (table : Table) (bytes : List ℕ) (at : ℕ) where
  placed : at < length bytes → PlacedRead at (item_at table bytes at)
  placed h = go (if_known (numbers_of table (get_or bytes at 0))) refl
    where
      go : (n : Option ℕ) → if_known (numbers_of table (get_or bytes at 0)) ≡ n → PlacedRead at (item_at table bytes at)
      go (Some n) e = subst (PlacedRead at) (known table bytes at h n e) (numbers_placed n bytes at (get_or bytes at 0) [] (at + 1))
      go None e = subst (PlacedRead at) (unknown table bytes at h e) refl

  -- so the end is read at the end alone
  pub end_back : item_at table bytes at ≡ Ok None → length bytes ≤ at
  end_back e = by_cases (dec_lt at (length bytes)) (λ h. absurd (subst (PlacedRead at) e (placed h))) (λ h. omega arith)

  -- and a refusal by the reader has the item's place
  pub refused_place : (r : Refusal) → item_at table bytes at ≡ Err r → place_of r ≡ at
  refused_place r e =
      by_cases (dec_lt at (length bytes))
      (λ h. subst (PlacedRead at) e (placed h))
      (λ h. let u : Ok None ≡ item_at table bytes at = ended table bytes at (omega arith) in absurd (let z : ◌≡◌ {A = ℕ} 0 1 = cc in omega arith))

-- what holds of each code of a table holds of each code that the table knows
pub by_row : (P : ℕ → Type 0) (rows : List CodeRow) → Each (λ r. P r.code) rows → (code : ℕ) → look code rows < no_code → P code
unfolding look
by_row P [] e code known = absurd (omega arith)
by_row P (r ∷ rows) e code known =
    by_cases (ℕ_discrete code r.code)
    (λ q. subst P (sym q) e.0)
    (λ n. by_row P rows e.1 code (rw (ne_eqb code r.code n) at known))
