-- Each public function's statement allows one answer, and one content of the output buffer. `Post` is the function's own `ensures`.
use mathlib.Core.Path.{◌≡◌, sym, ◌∙◌}
use Rattle.makers.proofs.make.which_number.Reads as which-number
use Rattle.makers.proofs.make.negate.Reads as negate
use Rattle.makers.proofs.make.next.Reads as next
use Rattle.makers.proofs.make.both.Reads as both
use Rattle.makers.proofs.make.either.Reads as either

pub which_number_unique : (κs : _) (a : _) (r s : _) (x y : _) → which-number.Post κs a r x → which-number.Post κs a s y → r ≡ s
which_number_unique κs a r s x y p q = cc

pub negate_unique : (κs : _) (a : _) (r s : _) (x y : _) → negate.Post κs a r x → negate.Post κs a s y → (r ≡ s) × (x.1.0.now ≡ y.1.0.now)
negate_unique κs a r s x y p q = let e = p.own_answer ∙ sym q.own_answer in (e, rw e at p.own_out ∙ sym q.own_out)

pub next_unique : (κs : _) (a : _) (r s : _) (x y : _) → next.Post κs a r x → next.Post κs a s y → (r ≡ s) × (x.1.0.now ≡ y.1.0.now)
next_unique κs a r s x y p q = let e = p.own_answer ∙ sym q.own_answer in (e, rw e at p.own_out ∙ sym q.own_out)

pub both_unique : (κs : _) (a : _) (r s : _) (x y : _) → both.Post κs a r x → both.Post κs a s y → (r ≡ s) × (x.1.1.0.now ≡ y.1.1.0.now)
both_unique κs a r s x y p q = let e = p.own_answer ∙ sym q.own_answer in (e, rw e at p.own_out ∙ sym q.own_out)

pub either_unique : (κs : _) (a : _) (r s : _) (x y : _) → either.Post κs a r x → either.Post κs a s y → (r ≡ s) × (x.1.1.0.now ≡ y.1.1.0.now)
either_unique κs a r s x y p q = let e = p.own_answer ∙ sym q.own_answer in (e, rw e at p.own_out ∙ sym q.own_out)
