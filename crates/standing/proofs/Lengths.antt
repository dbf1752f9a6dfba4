-- How long each part of the text is at most: five bytes for a number below 100,000, and three for a frame.
use mathlib.Core.Path.{◌≡◌, refl}
use mathlib.Core.List.{[], ◌∷◌}
use Prim.Native.Nat.{ℕ, ◌+◌, ◌*◌, ◌≤◌, ◌<◌}
use native.Mathlib.Omega.{arith}
use lib.ListN.{length, length-append}
use Rattle.ground.specs.Frames.{Clip}
use Rattle.ground.specs.Refusals.{number_of, place_of}
use Rattle.ground.specs.declared.refusal.Refusal.{Refusal}
use Rattle.ground.proofs.Refusals.{numbered}
use Rattle.text.specs.Digits.{ascii}
use Rattle.standing.specs.Text.{spaced, frames_text, head_text, met_text, none_text, refused_text}
use Rattle.text.proofs.Decimal.{five_digits}

-- three bytes for each frame
spaced_length : (c : Clip) → length (spaced c) ≡ 3 * length c
unfolding ascii spaced
spaced_length [] = refl
spaced_length (x ∷ c) = omega (arith, spaced_length c)

frames_length : (c : Clip) → length (frames_text c) ≤ 3 * length c + 1
unfolding ascii
frames_length [] = omega arith
frames_length (x ∷ c) = simp length-append (omega (arith, spaced_length c))

-- the lines on a rule, on a clip, that there is none, and of a refusal
pub head_length : (bytes items far : ℕ) → bytes < 100000 → items < 100000 → far < 100000 → length (head_text bytes items far) ≤ 43
unfolding ascii
head_length bytes items far b i f =
    simp length-append (omega (arith, five_digits bytes b, five_digits items i, five_digits far f))

pub met_length : (states : ℕ) (c : Clip) → states < 100000 → length c < 100000 → length (met_text states c) ≤ 3 * length c + 31
unfolding ascii
met_length states c s l = simp length-append (omega (arith, five_digits states s, five_digits (length c) l, frames_length c))

pub none_length : (states : ℕ) → states < 100000 → length (none_text states) ≤ 18
unfolding ascii
none_length states s = simp length-append (omega (arith, five_digits states s))

pub refused_length : (r : Refusal) → place_of r < 100000 → length (refused_text r) ≤ 23
unfolding ascii
refused_length r p =
    simp length-append (omega (arith, five_digits (number_of r) (omega (arith, (numbered r).1)), five_digits (place_of r) p))
