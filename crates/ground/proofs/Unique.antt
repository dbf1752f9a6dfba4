-- Each public function's statement allows one answer: two results, and two buffers left behind, that it allows of the same arguments are equal. `Post` is the
-- function's own `ensures`.
use mathlib.Core.Path.{◌≡◌, sym, ◌∙◌}
use Rattle.ground.proofs.buffer.write_bytes.Reads as write_bytes
use Rattle.ground.proofs.limits.all.Reads as all
use Rattle.ground.proofs.limits.all_bounds.Reads as all-bounds
use Rattle.ground.proofs.byte.wide.Reads as wide
use Rattle.ground.proofs.refusal.number.Reads as number
use Rattle.ground.proofs.refusal.place.Reads as place
use Rattle.ground.proofs.byte.byte_of.Reads as byte_of

pub all_unique : (κs : _) (a : _) (r s : _) (x y : _) → all.Post κs a r x → all.Post κs a s y → r ≡ s
all_unique κs a r s x y p q = cc

pub all_bounds_unique : (κs : _) (a : _) (r s : _) (x y : _) → all-bounds.Post κs a r x → all-bounds.Post κs a s y → r ≡ s
all_bounds_unique κs a r s x y p q = cc

pub wide_unique : (κs : _) (a : _) (r s : _) (x y : _) → wide.Post κs a r x → wide.Post κs a s y → r ≡ s
wide_unique κs a r s x y p q = p.0 ∙ sym q.0

pub number_unique : (κs : _) (a : _) (r s : _) (x y : _) → number.Post κs a r x → number.Post κs a s y → r ≡ s
number_unique κs a r s x y p q = cc

pub place_unique : (κs : _) (a : _) (r s : _) (x y : _) → place.Post κs a r x → place.Post κs a s y → r ≡ s
place_unique κs a r s x y p q = cc

pub write_bytes_unique : (κs : _) (a : _) (r s : _) (x y : _) → write_bytes.Post κs a r x → write_bytes.Post κs a s y → (r ≡ s) × (x.0.now ≡ y.0.now)
write_bytes_unique κs a r s x y p q = ((p.1 ∙ sym q.1), (p.0 ∙ sym q.0))

pub byte_of_unique : (κs : _) (a : _) (r s : _) (x y : _) → byte_of.Post κs a r x → byte_of.Post κs a s y → r ≡ s
byte_of_unique κs a r s x y p q = cc
