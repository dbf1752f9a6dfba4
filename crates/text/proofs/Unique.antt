-- Each public function's statement allows one answer: two results, and two buffers left behind, that it allows of the same arguments are equal. `Post` is the
-- function's own `ensures`.
use mathlib.Core.Path.{◌≡◌, sym, ◌∙◌}
use Rattle.text.proofs.digits.write_decimal.Reads as write-decimal
use Rattle.text.proofs.digits.write_count.Reads as write-count
use Rattle.text.proofs.digits.write_hex.Reads as write-hex

pub write_decimal_unique : (κs : _) (a : _) (r s : _) (x y : _) → write-decimal.Post κs a r x → write-decimal.Post κs a s y
    → (r ≡ s) × (x.0.now ≡ y.0.now)
write_decimal_unique κs a r s x y p q = (p.1 ∙ sym q.1, p.0 ∙ sym q.0)

pub write_count_unique : (κs : _) (a : _) (r s : _) (x y : _) → write-count.Post κs a r x → write-count.Post κs a s y
    → (r ≡ s) × (x.0.now ≡ y.0.now)
write_count_unique κs a r s x y p q = (p.1 ∙ sym q.1, p.0 ∙ sym q.0)

pub write_hex_unique : (κs : _) (a : _) (r s : _) (x y : _) → write-hex.Post κs a r x → write-hex.Post κs a s y
    → (r ≡ s) × (x.0.now ≡ y.0.now)
write_hex_unique κs a r s x y p q = (p.1 ∙ sym q.1, p.0 ∙ sym q.0)
