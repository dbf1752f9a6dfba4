-- A number's digits: one below ten, else those of the tenth part with one behind them. As many turns as there are digits suffice, so how many more there are
-- does not matter.
use mathlib.Core.Path.{◌≡◌, ap}
use mathlib.Core.List.{List, [], ◌∷◌, ◌++◌, append_assoc}
use mathlib.Core.Logic.{by_cases}
use Prim.Native.Nat.{ℕ, zero, suc, ◌+◌, ◌/◌, ◌%◌, ◌≤◌, ◌<◌}
use native.Mathlib.Decide.{dec_lt}
use native.Mathlib.Nat.{mod-eq_of_lt}
use native.Mathlib.Numerals.{add-one}
use native.Mathlib.Omega.{arith}
use borrow.Author.Tests.{lt-ltb, le-ltb}
use lib.ListN.{length, length-append}
use Rattle.text.specs.Digits.{digit, digits_in, decimal}

-- turns enough are enough
enough : (t u n : ℕ) → n < t → n < u → digits_in t n ≡ digits_in u n
unfolding digits_in
enough zero u n h k = absurd (omega arith)
enough (suc t) zero n h k = absurd (omega arith)
enough (suc t) (suc u) n h k =
    by_cases (dec_lt n 10) (λ small. rw (lt-ltb n 10 small)) λ large.
    rw (le-ltb n 10 (omega arith), enough t u (n / 10) (omega arith) (omega arith))

-- a number below ten is one digit
pub decimal_one : (n : ℕ) → n < 10 → decimal n ≡ digit n ∷ []
unfolding decimal digits_in
decimal_one n h = rw (add-one, mod-eq_of_lt h, lt-ltb n 10 h)

-- of the length 1
pub one_long : (n : ℕ) → n < 10 → length (decimal n) ≡ 1
one_long n h = ap length (decimal_one n h)

-- any other has those of its tenth part before the last
decimal_more : (n : ℕ) → 10 ≤ n → decimal n ≡ decimal (n / 10) ++ decimal (n % 10)
unfolding decimal digits_in
decimal_more n h =
    rw (decimal_one (n % 10) (omega arith), add-one n, le-ltb n 10 h, enough n (n / 10 + 1) (n / 10) (omega arith) (omega arith))

-- so it is one longer than its tenth part
one_longer : (n : ℕ) → 10 ≤ n → length (decimal n) ≡ length (decimal (n / 10)) + 1
one_longer n h = rw (decimal_more n h, length-append, one_long (n % 10) (omega arith))

-- at most one digit more than the tenth part has
at_most_one : (n : ℕ) → length (decimal n) ≤ length (decimal (n / 10)) + 1
at_most_one n = by_cases (dec_lt n 10) (λ small. omega (arith, one_long n small)) λ large. omega (arith, one_longer n (omega arith))

-- A number of five digits at most
pub five_digits : (n : ℕ) → n < 100000 → length (decimal n) ≤ 5
five_digits n h =
    let last = one_long (n / 10 / 10 / 10 / 10) (omega arith) in
    omega (arith, last, at_most_one n, at_most_one (n / 10), at_most_one (n / 10 / 10), at_most_one (n / 10 / 10 / 10))

-- A word and a number behind it: the last digit stands behind the others
pub last_behind : (word : List ℕ) (n : ℕ) → 10 ≤ n → word ++ decimal n ≡ (word ++ decimal (n / 10)) ++ decimal (n % 10)
last_behind word n h = rw (decimal_more n h, append_assoc)
