-- `try_byte` meets its contract: the frame leads on from what the state's record keeps, and a trial that does not satisfy is kept.
use native.Mathlib.Omega.{arith}
use Rattle.finder.proofs.Trials.{misses, meets}
use Rattle.finder.proofs.explore.try_byte.Goals as goal

pub returns-then-led : goal.returns-then-led
returns-then-led c = λ ended t. meets _ t (omega arith) _ c.advance-led.ensures c.if-led.true

pub returns : goal.returns
returns c = λ ended t. c.keep.ensures _ _ (misses _ t (omega arith) _ c.advance-led.ensures c.if-led.false)
