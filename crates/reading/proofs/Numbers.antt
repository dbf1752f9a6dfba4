-- Laws of `number_at`: what stands at a place, by the tests on one or two bytes that decide it. Each opens the list at the place, and the tests do the rest.
use mathlib.Core.Path.{◌≡◌}
use mathlib.Core.Bool.{true, ◌||◌}
use mathlib.Core.List.{List, [], ◌∷◌}
use mathlib.Core.Logic.{by_cases}
use Prim.Native.Nat.{ℕ, suc, ◌+◌, ◌-◌, ◌*◌, ◌/◌, ◌%◌, ◌≤◌, ◌<◌}
use native.Mathlib.Decide.{dec_lt}
use native.Mathlib.Numerals.{add-one}
use native.Mathlib.Omega.{arith}
use borrow.Author.Tests.{lt-ltb, le-ltb, le-leb, lt-leb, ne_eqb}
use lib.Dec.{eqb, leb}
use lib.ListN.{length, get_or, drop_of_length-le}
use lib.Seq.{drop-cons}
use Rattle.std.specs.Prelude.{Err}
use Rattle.reading.specs.Numbers.{group, number_at, number_read, number_bytes}
use Rattle.ground.specs.Limits.{limits}
use Rattle.reading.specs.declared.number.Fault.TheVariants.{Short, Long}

-- behind the last byte
pub ended : (s : List ℕ) (at : ℕ) → length s ≤ at → Err Short ≡ number_at s at
unfolding number_at
ended s at h = rw (drop_of_length-le s h)

module _ (s : List ℕ) (at low : ℕ) (inside : at < length s) (first : low ≡ get_or s at 0) where
  -- one byte
  pub one : low < group → number_read low (at + 1) ≡ number_at s at
  unfolding number_at
  one h = rw (drop-cons s at 0 inside, ← first, lt-ltb low group h)

  -- a first byte that says that another follows, where none does
  pub cut : group ≤ low → length s ≤ at + 1 → Err Short ≡ number_at s at
  unfolding number_at
  cut h e = rw (drop-cons s at 0 inside, ← first, le-ltb low group h, drop_of_length-le s {i = suc at} (omega arith))

  module _ (high : ℕ) (follows : group ≤ low) (more : at + 1 < length s) (second : high ≡ get_or s (at + 1) 0) where
    -- a second byte that is 0 or says that a third follows
    pub long : (eqb high 0 || leb group high) ≡ true → Err Long ≡ number_at s at
    unfolding number_at
    long h =
        let e : high ≡ get_or s (suc at) 0 = rw add-one at second in
        rw (drop-cons s at 0 inside, ← first, le-ltb low group follows, drop-cons s (suc at) 0 (omega arith), ← e, h)

    -- two bytes
    pub two : (high ≡ 0 → ⊥) → high < group → number_read (low - group + group * high) (at + 1 + 1) ≡ number_at s at
    unfolding number_at
    two h t =
        let e : high ≡ get_or s (suc at) 0 = rw add-one at second in
        let n : at + 1 + 1 ≡ at + 2 = omega arith in
        rw (
          drop-cons s at 0 inside,
          ← first,
          le-ltb low group follows,
          drop-cons s (suc at) 0 (omega arith),
          ← e,
          ne_eqb high 0 h,
          lt-leb group high t,
          n,
        )

-- The three forms of a number's bytes
pub bytes_one : (n : ℕ) → n < group → number_bytes n ≡ n % group ∷ []
unfolding number_bytes
bytes_one n h = let e : n % group ≡ n = omega arith in rw (lt-ltb n group h, e)

pub bytes_two : (n : ℕ) → group ≤ n → n ≤ limits.number → number_bytes n ≡ (n % group + group) ∷ (n / group % group) ∷ []
unfolding number_bytes
bytes_two n h t = let e : n / group % group ≡ n / group = omega arith in rw (le-ltb n group h, le-leb n limits.number t, e)

pub bytes_none : (n : ℕ) → group ≤ n → limits.number < n → number_bytes n ≡ []
unfolding number_bytes
bytes_none n h t = rw (le-ltb n group h, lt-leb n limits.number t)

-- a number takes two bytes at most
pub number_length : (n : ℕ) → length (number_bytes n) ≤ 2
number_length n =
    by_cases (dec_lt n group) (λ h. rw (bytes_one n h) (omega arith))
    λ h. by_cases (dec_lt limits.number n)
    (λ t. rw (bytes_none n (omega arith) t) (omega arith))
    λ t. rw (bytes_two n (omega arith) (omega arith)) (omega arith)
