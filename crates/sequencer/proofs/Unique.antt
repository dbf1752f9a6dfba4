-- Each public function's statement allows one answer: two results that it allows of the same arguments are equal, and so is every buffer that is lent to be
-- written. `Post` is the function's own `ensures`.
use mathlib.Core.Path.{◌≡◌, sym, ◌∙◌}
use Rattle.sequencer.proofs.registers.Registers.advance.Reads as advance
use Rattle.sequencer.proofs.registers.Registers.fresh.Reads as fresh
use Rattle.sequencer.proofs.registers.Registers.step.Reads as step
use Rattle.sequencer.proofs.run.run.Reads as run

pub fresh_unique : (κs : _) (a : _) (r s : _) (x y : _) → fresh.Post κs a r x → fresh.Post κs a s y → r ≡ s
fresh_unique κs a r s x y p q = cc

pub advance_unique : (κs : _) (a : _) (r s : _) (x y : _) → advance.Post κs a r x → advance.Post κs a s y → r ≡ s
advance_unique κs a r s x y p q = cc

pub step_unique : (κs : _) (a : _) (r s : _) (x y : _) → step.Post κs a r x → step.Post κs a s y → r ≡ s
step_unique κs a r s x y p q = cc

pub run_unique : (κs : _) (a : _) (r s : _) (x y : _) → run.Post κs a r x → run.Post κs a s y → (r ≡ s) × (x.1.1.0.now ≡ y.1.1.0.now)
run_unique κs a r s x y p q =
    let e : r ≡ s = p.0 ∙ sym q.0 in
    (e, p.1 ∙ sym (rw (← e) at q.1))
