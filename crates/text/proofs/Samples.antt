-- The samples of numbers and bytes as text: each definition computes to the very words.
use mathlib.Core.Path.{◌≡◌, refl}
use Rattle.ground.specs.Each.{Each}
use Rattle.text.specs.Digits.{ascii, digits_in, decimal}
use Rattle.text.specs.Samples.{samples}

pub samples_right : Each (λ s. s.0 ≡ s.1) samples
unfolding ascii digits_in decimal
samples_right = (refl, (refl, (refl, (refl, (refl, (refl, (refl, (refl, tt))))))))
