-- What the entries share of reading a word: each part of a word is a number smaller than the next part's bit is worth, so division and remainder give it back.
use mathlib.Core.Path.{◌≡◌}
use mathlib.Core.Bool.{true, false}
use Prim.Native.Nat.{ℕ, ◌+◌, ◌*◌, ◌%◌, ◌≤◌, ◌<◌}
use native.Mathlib.Omega.{arith}
use borrow.Author.Tests.{lt-ltb, eq-eqb, ne_eqb}
use Rattle.ground.specs.Refusals.{number_of, place_of}
use Rattle.ground.specs.declared.refusal.Refusal.{Refusal}
use Rattle.ground.proofs.Refusals.{numbered}
use Rattle.thistlecart.specs.Accessors.{refusal_told, answered, place_told, which_told, length_told, TellsRefusal}
use Rattle.thistlecart.specs.Inner.Words.{PlaceFits}
use Rattle.thistlecart.specs.Words.{bit8, bit24, bit32, bit40, refusal_word}

-- the word of number and place, and what stands above them
module _ (n p w : ℕ) (some : 1 ≤ n) (small : n < bit8) (fits : p < bit32) where
  lowest : refusal_told (n + p * bit8 + w * bit40) ≡ n
  lowest = omega arith

  not_answered : answered (n + p * bit8 + w * bit40) ≡ false
  not_answered = ne_eqb ((n + p * bit8 + w * bit40) % bit8) 0 (λ e. omega (arith, lowest, e))

  middle : place_told (n + p * bit8 + w * bit40) ≡ p
  middle = rw not_answered (omega arith)

  highest : which_told (n + p * bit8 + w * bit40) ≡ w
  highest = rw not_answered (omega arith)

-- a refusal's word, with which of the three above it
pub which_told_lem : (r : Refusal) (w : ℕ) → PlaceFits r
    → TellsRefusal r (refusal_word r + w * bit40) × (which_told (refusal_word r + w * bit40) ≡ w)
which_told_lem r w fits =
    let (some, most) = numbered r in
    let n = number_of r in
    let p = place_of r in
    let small : n < bit8 = omega arith in
    ((lowest n p w some small fits, middle n p w some small fits), highest n p w some small fits)

-- a refusal's word alone
pub refusal_told_lem : (r : Refusal) → PlaceFits r → TellsRefusal r (refusal_word r)
refusal_told_lem r fits = let e : refusal_word r + 0 * bit40 ≡ refusal_word r = omega arith in rw e at (which_told_lem r 0 fits).0

-- a word whose lowest byte is 0
pub calm : (word : ℕ) → refusal_told word ≡ 0 → answered word ≡ true
calm word e = eq-eqb (word % bit8) 0 e

-- the word of a length alone
pub length_told_lem : (length : ℕ) → length < bit24 → (refusal_told (length * bit8) ≡ 0) × (length_told (length * bit8) ≡ length)
length_told_lem length fits =
    let low : refusal_told (length * bit8) ≡ 0 = omega arith in
    (low, rw (calm _ low, lt-ltb (length * bit8) bit32 (omega arith)) (omega arith))
