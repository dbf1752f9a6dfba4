-- Bytes at a place and what is read there determine each other. The reader's tests find what stands there by its bytes; and where it reads something, the bytes
-- that it has seen are those of some value, which is then the one that is read.
use mathlib.Core.Path.{◌≡◌, refl, sym, ap, ◌∙◌}
use mathlib.Core.Bool.{Bool, true, false}
use mathlib.Core.Logic.{by_cases}
use mathlib.Core.List.{List, [], ◌∷◌, ◌++◌, append_assoc, append-nil}
use Prim.Native.Nat.{ℕ, zero, suc, ◌+◌, ◌-◌, ◌*◌, ◌/◌, ◌%◌, ◌≤◌, ◌<◌}
use native.Mathlib.Nat.{suc-ne-zero}
use native.Mathlib.Decide.{dec_lt}
use native.Mathlib.Omega.{arith}
use borrow.Author.Tests.{lt-ltb, le-ltb, le-leb, lt-leb, ne_eqb, eqb-false, leb-false}
use lib.Dec.{eqb, leb}
use lib.ListN.{length, get_or, take, drop, length-append, length-drop, length-take}
use lib.Seq.{drop-drop, drop-append_seam, append_snoc, get_or-drop, take_at}
use Rattle.ground.specs.Buffers.{AllBytes, byte_values}
use Rattle.ground.specs.Limits.{limits}
use Rattle.std.specs.Prelude.{None, Some, Result, Ok, Err}
use Rattle.reading.specs.Numbers.{group, first_byte, second_byte, number_at, number_read, number_bytes}
use Rattle.reading.specs.Items.{most_numbers, code_first, AtPlace, item_at, item_read}
use Rattle.reading.specs.Items.{with_number, numbers_from, numbers_of, no_code, numbers_bytes, item_bytes}
use Rattle.ground.specs.Padded.{padded}
use Rattle.reading.specs.declared.number.Number.{Number}
use Rattle.reading.specs.declared.number.Fault.{Fault}
use Rattle.reading.specs.declared.item.Table.{Table}
use Rattle.reading.specs.declared.item.Read.{Read}
use Rattle.ground.proofs.Padded.{get_or-padded}

-- at a place of some bytes stand these bytes, and `next` is the place behind them
pub record Stands (bytes : List ℕ) (at : ℕ) (own : List ℕ) (next : ℕ) : Type 0 where
  pub here : drop at bytes ≡ own ++ drop next bytes
  pub behind : next ≡ at + length own
  pub inside : next ≤ length bytes

-- for `cc`, which makes 1 ≡ 0 of two constructors that are equal
never : {A : Type 0} → ◌≡◌ {A = ℕ} 1 0 → A
never e = absurd (suc-ne-zero 0 e)

-- what is read determines its parts
value_in : Result Number Fault → ℕ
value_in (Ok n) = n.value
value_in (Err f) = 0

next_in : Result Number Fault → ℕ
next_in (Ok n) = n.next
next_in (Err f) = 0

same_number : {n next m behind : ℕ} → number_read n next ≡ number_read m behind → (n ≡ m) × (next ≡ behind)
unfolding value_in next_in
same_number e = (ap value_in e, ap next_in e)

item_part : (Read → ℕ) → AtPlace → ℕ
item_part f (Ok (Some r)) = f r
item_part f (Ok None) = 0
item_part f (Err r) = 0

pub record SameItem (code i j k next code' i' j' k' next' : ℕ) : Type 0 where
  pub codes : code ≡ code'
  pub firsts : i ≡ i'
  pub seconds : j ≡ j'
  pub thirds : k ≡ k'
  pub nexts : next ≡ next'

pub same_item : {code i j k next code' i' j' k' next' : ℕ} → item_read code i j k next ≡ item_read code' i' j' k' next'
    → SameItem code i j k next code' i' j' k' next'
unfolding item_part
same_item e =
    record {
      codes = ap (item_part (λ r. r.code)) e;
      firsts = ap (item_part (λ r. r.first)) e;
      seconds = ap (item_part (λ r. r.second)) e;
      thirds = ap (item_part (λ r. r.third)) e;
      nexts = ap (item_part (λ r. r.next)) e;
    }

-- bytes that begin with those of a number
abbrev Begins : List ℕ → Type 0
Begins s = (m : ℕ) × (rest : List ℕ) × (m ≤ limits.number) × (s ≡ number_bytes m ++ rest) × (0 < length s)

-- where a number is read, the bytes begin with those of one
module _ (at : ℕ) {n next : ℕ} where
  begins_two : (low : ℕ) (s : List ℕ) → group ≤ low → low < byte_values → second_byte at low s ≡ number_read n next → Begins (low ∷ s)
  unfolding number_bytes
  begins_two low [] h b e = never (cc)
  begins_two low (high ∷ rest) h b e = tested (eqb high 0) (leb group high) refl refl
    where
      tested : (none large : Bool) → eqb high 0 ≡ none → leb group high ≡ large → Begins (low ∷ high ∷ rest)
      tested true large p q = never (cc (rw p at e))
      tested false true p q = never (cc (rw (p, q) at e))
      tested false false p q =
          let above = eqb-false high 0 p in
          let below = leb-false group high q in
          let m : ℕ = low - group + group * high in
          let x : m % group + group ≡ low = omega arith in
          let y : m / group ≡ high = omega arith in
          let t : m ≤ limits.number = omega arith in
          (m, rest, t, rw (le-ltb m group (omega arith), le-leb m limits.number t, x, y), omega arith)

  begins : (s : List ℕ) → AllBytes s → first_byte at s ≡ number_read n next → Begins s
  unfolding number_bytes
  begins [] small e = never (cc)
  begins (low ∷ rest) small e =
      by_cases (dec_lt low group)
      (λ h. (low, rest, omega arith, rw (lt-ltb low group h), omega arith))
      λ h. begins_two low rest (omega arith) (small 0) (rw (le-ltb low group (omega arith)) at e)

module _ (bytes : List ℕ) (at : ℕ) where
  rest_behind : (own rest : List ℕ) → drop at bytes ≡ own ++ rest → drop (at + length own) bytes ≡ rest
  rest_behind own rest e = rw (← drop-drop (length own) at bytes, e, drop-append_seam)

  -- what the bytes from a place on begin with stands there
  standing : (own rest : List ℕ) → at ≤ length bytes → drop at bytes ≡ own ++ rest → Stands bytes at own (at + length own)
  standing own rest h e =
      let l = simp (length-append, length-drop) at (ap length e) in
      record { here = rw (rest_behind own rest e) e; behind = refl; inside = omega arith }

  -- bytes one behind the other are one run of bytes, and the other way round
  pub joined : {a b : List ℕ} {mid next : ℕ} → Stands bytes at a mid → Stands bytes mid b next → Stands bytes at (a ++ b) next
  joined s t = record { here = rw (s.here, t.here, append_assoc); behind = simp length-append (omega arith); inside = t.inside }

  pub parted : (a b : List ℕ) {next : ℕ} → Stands bytes at (a ++ b) next
      → Stands bytes at a (at + length a) × Stands bytes (at + length a) b next
  parted a b {next} s =
      let rest : List ℕ = b ++ drop next bytes in
      let e : drop at bytes ≡ a ++ rest = rw append_assoc at s.here in
      let l : next ≡ at + (length a + length b) = rw length-append at s.behind in
      (standing a rest (omega arith) e, record { here = rest_behind a rest e; behind = omega arith; inside = s.inside })

  -- a number that is read stands there in its shortest form, and no other does
  pub number_there : (n next : ℕ) → n ≤ limits.number → Stands bytes at (number_bytes n) next → number_at bytes at ≡ number_read n next
  unfolding number_at number_bytes
  number_there n next t s =
      by_cases (dec_lt n group)
      (λ h. let r = rw (lt-ltb n group h) at s in rw (r.here, r.behind, lt-ltb n group h))
      λ h.
      let r = rw (le-ltb n group (omega arith), le-leb n limits.number t) at s in
      let low : ℕ = n % group + group in
      let high : ℕ = n / group in
      let v : low - group + group * high ≡ n = omega arith in
      rw (r.here, r.behind, le-ltb low group (omega arith), ne_eqb high 0 (omega arith), lt-leb group high (omega arith), v)

  pub number_back : (n next : ℕ) → AllBytes bytes → number_at bytes at ≡ number_read n next → (n ≤ limits.number) × Stands bytes at (number_bytes n) next
  unfolding number_at
  number_back n next small read =
      let (m, rest, t, e, h) = begins at (drop at bytes) (λ i. rw get_or-drop (small (at + i))) read in
      let s = standing (number_bytes m) rest (omega (arith, length-drop at bytes)) e in
      let v = number_there m (at + length (number_bytes m)) t s in
      let (p, q) = same_number (sym v ∙ read) in
      (rw p at t, rw (q, p) at s)

-- no number is too large
abbrev AllFit : List ℕ → Type 0
AllFit ns = (x : ℕ) → get_or ns x 0 ≤ limits.number

-- where an item is read, so is its next number
value : (at : ℕ) (number : Result Number Fault) (more : ℕ → ℕ → AtPlace) {code i j k last : ℕ} → with_number at number more ≡ item_read code i j k last
    → (n : ℕ) × (next : ℕ) × (number ≡ number_read n next) × (more n next ≡ item_read code i j k last)
value at (Ok n) more e = (n.value, n.next, refl, e)
value at (Err f) more e = never (cc)

-- the numbers still to come are read where they stand by their bytes, and stand so where they are read
module _ (bytes : List ℕ) (at code : ℕ) where
  numbers_there : (ns read : List ℕ) (next last : ℕ) → AllFit ns → Stands bytes next (numbers_bytes ns) last
      → numbers_from (length ns) bytes at code read next ≡ item_read code (get_or (read ++ ns) 0 0) (get_or (read ++ ns) 1 0) (get_or (read ++ ns) 2 0) last
  unfolding numbers_from numbers_bytes
  numbers_there [] read next last fit s = let e : last ≡ next = omega arith in rw (append-nil, e)
  numbers_there (n ∷ ns) read next last fit s =
      let (p, q) = parted bytes next (number_bytes n) (numbers_bytes ns) s in
      let mid : ℕ = next + length (number_bytes n) in
      rw (number_there bytes next n mid (fit 0) p, ← append_snoc read n ns)
      (numbers_there ns (read ++ n ∷ []) mid last (λ x. fit (suc x)) q)

  numbers_back : (m : ℕ) (read : List ℕ) (next : ℕ) {c i j k last : ℕ} → AllBytes bytes → next ≤ length bytes
      → numbers_from m bytes at code read next ≡ item_read c i j k last
      → (ns : List ℕ) × (length ns ≡ m) × AllFit ns × Stands bytes next (numbers_bytes ns) last
  unfolding numbers_from numbers_bytes
  numbers_back zero read next {last} small h e =
      let q = sym (same_item e).nexts in
      ([], refl, (λ x. omega arith), record { here = rw q; behind = omega arith; inside = omega arith })
  numbers_back (suc m) read next small h e =
      let (n, mid, v, more) = value at (number_at bytes next) _ e in
      let (t, s) = number_back bytes next n mid small v in
      let (ns, l, fit, r) = numbers_back m (read ++ n ∷ []) mid small s.inside more in
      (n ∷ ns, ap suc l, elim [ zero ↦ t | suc x ↦ fit x ], joined bytes next s r)

-- an item's numbers: none is too large, and those that it lacks are 0
pub record Fitting (table : Table) (code i j k : ℕ) : Type 0 where
  pub known : numbers_of table code < no_code
  pub first : i ≤ limits.number
  pub second : j ≤ limits.number
  pub third : k ≤ limits.number
  pub lacks : i ∷ j ∷ k ∷ [] ≡ padded most_numbers (take (numbers_of table code) (i ∷ j ∷ k ∷ []))

-- an array of three holds up to three numbers
three : (ns : List ℕ) → length ns ≤ most_numbers → get_or ns 0 0 ∷ get_or ns 1 0 ∷ get_or ns 2 0 ∷ [] ≡ padded most_numbers ns
unfolding padded
three [] h = refl
three (a ∷ []) h = refl
three (a ∷ b ∷ []) h = refl
three (a ∷ b ∷ c ∷ []) h = refl
three (a ∷ b ∷ c ∷ d ∷ ns) h = absurd (omega arith)

-- as many numbers as a code has make an item, whose bytes are theirs
fitting : (table : Table) (code : ℕ) (ns : List ℕ) → numbers_of table code < no_code → length ns ≡ numbers_of table code → AllFit ns
    → Fitting table code (get_or ns 0 0) (get_or ns 1 0) (get_or ns 2 0)
    × (item_bytes table code (get_or ns 0 0) (get_or ns 1 0) (get_or ns 2 0) ≡ code ∷ numbers_bytes ns)
unfolding padded item_bytes
fitting table code ns known l fit =
    let all = three ns (omega arith) in
    let own : take (numbers_of table code) (get_or ns 0 0 ∷ get_or ns 1 0 ∷ get_or ns 2 0 ∷ []) ≡ ns = rw all (take_at ns _ _ l) in
    (record { known = known; first = fit 0; second = fit 1; third = fit 2; lacks = rw own all }, rw own)

-- where an item is read there is a known code, and its numbers are read behind it
coded : (table : Table) (bytes : List ℕ) (at : ℕ) (s : List ℕ) {code i j k next : ℕ} → code_first table bytes at s ≡ item_read code i j k next
    → (c : ℕ) × (rest : List ℕ) × (s ≡ c ∷ rest) × (numbers_of table c < no_code)
    × (numbers_from (numbers_of table c) bytes at c [] (at + 1) ≡ item_read code i j k next)
coded table bytes at [] e = never (cc)
coded table bytes at (c ∷ rest) e =
    by_cases (dec_lt (numbers_of table c) no_code)
    (λ t. (c, rest, refl, t, rw (lt-leb no_code (numbers_of table c) t) at e))
    λ t. never (cc (rw (le-leb no_code (numbers_of table c) (omega arith)) at e))

-- an item that is read stands there by its bytes, and what stands there by an item's bytes is read
module _ (table : Table) (bytes : List ℕ) (at : ℕ) where
  pub item_there : (code i j k next : ℕ) → Fitting table code i j k → Stands bytes at (item_bytes table code i j k) next
      → item_at table bytes at ≡ item_read code i j k next
  unfolding item_at item_bytes
  item_there code i j k next f s =
      let all : List ℕ = i ∷ j ∷ k ∷ [] in
      let ns : List ℕ = take (numbers_of table code) all in
      let l : length ns ≡ numbers_of table code = rw length-take (omega arith) in
      let same : (x : ℕ) → get_or all x 0 ≡ get_or ns x 0 = λ x. rw get_or-padded at (ap (λ (xs : List ℕ). get_or xs x 0) f.lacks) in
      let fit : AllFit all = elim [ zero ↦ f.first | suc zero ↦ f.second | suc (suc zero) ↦ f.third | suc (suc (suc x)) ↦ omega arith ] in
      let numbers = (parted bytes at (code ∷ []) (numbers_bytes ns) s).1 in
      let r = numbers_there bytes at code ns [] (at + 1) next (λ x. rw (← same x) (fit x)) numbers in
      rw (s.here, lt-leb no_code (numbers_of table code) f.known) (rw (l, ← same 0, ← same 1, ← same 2) at r)

  pub item_back : (code i j k next : ℕ) → AllBytes bytes → item_at table bytes at ≡ item_read code i j k next
      → Fitting table code i j k × Stands bytes at (item_bytes table code i j k) next
  unfolding item_at
  item_back code i j k next small read =
      let (c, rest, e, t, numbers) = coded table bytes at (drop at bytes) read in
      let first = standing bytes at (c ∷ []) rest (omega (arith, length-drop at bytes, ap length e)) e in
      let (ns, l, fit, more) = numbers_back bytes at c (numbers_of table c) [] (at + 1) small first.inside numbers in
      let (f, own) = fitting table c ns t l fit in
      let s = rw (← own) at (joined bytes at first more) in
      let v = item_there c (get_or ns 0 0) (get_or ns 1 0) (get_or ns 2 0) next f s in
      let q = same_item (sym v ∙ read) in
      let x = q.firsts in
      let y = q.seconds in
      let z = q.thirds in
      let p = q.codes in
      let own : item_bytes table c (get_or ns 0 0) (get_or ns 1 0) (get_or ns 2 0) ≡ item_bytes table code i j k = cc in
      (rw (x, y, z, p) at f, rw (own, q.nexts) at s)
