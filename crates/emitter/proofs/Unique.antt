-- Each public function's statement allows one answer: two results that it allows of the same arguments are equal, and so is the buffer that is lent to be
-- written. `Post` is the function's own `ensures`.
use mathlib.Core.Path.{◌≡◌, sym, ◌∙◌}
use Rattle.emitter.proofs.emit.emit.Reads as emit
use Rattle.emitter.proofs.prepare.prepare.Reads as prepare

pub emit_unique : (κs : _) (a : _) (r s : _) (x y : _) → emit.Post κs a r x → emit.Post κs a s y → (r ≡ s) × (x.1.0.now ≡ y.1.0.now)
emit_unique κs a r s x y p q =
    let e : r ≡ s = p.0 ∙ sym q.0 in
    (e, p.1 ∙ sym (rw (← e) at q.1))

pub prepare_unique : (κs : _) (a : _) (r s : _) (x y : _) → prepare.Post κs a r x → prepare.Post κs a s y → r ≡ s
prepare_unique κs a r s x y p q = cc
