-- `write_digit` meets its contract: a number below ten is one digit.
use Rattle.std.proofs.Common.{◌≡◌, ◌<◌, ℕ, List, [], ◌∷◌}
use Rattle.ground.specs.Buffers.{written, place_after}
use Rattle.text.specs.Digits.{digit, decimal}
use Rattle.text.specs.Inner.Writing.{Puts}
use Rattle.text.proofs.Decimal.{decimal_one}
use Rattle.text.proofs.digits.write_digit.Goals as goal

one_digit : (text : List ℕ) (at n d : ℕ) {after : List ℕ} {end : ℕ} → n < 10 → d ≡ digit n
    → after ≡ written text at (d ∷ []) → end ≡ place_after text at (d ∷ []) → Puts text at (decimal n) after end
one_digit text at n d h e own place = rw (decimal_one n h, ← e) (own, place)

pub returns : goal.returns
returns c = one_digit _ _ c.args.n _ c.requires c.digit.ensures c.write_bytes.ensures.buffer c.write_bytes.ensures.place
