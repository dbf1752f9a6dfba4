-- `thistlecart_emit` meets its contract: every answer of emitting fits into the word.
use mathlib.Core.Path.{subst, sym}
use native.Mathlib.Omega.{arith}
use Rattle.thistlecart.proofs.EmitEntry.{emitted_fits}
use Rattle.thistlecart.specs.Inner.Emit.{EmittedFits}
use Rattle.thistlecart.proofs.emit.thistlecart_emit.Goals as goal

pub emitted_word-requires : goal.emitted_word-requires
emitted_word-requires c =
    subst EmittedFits (sym c.emit.ensures.0) (emitted_fits _ _ (λ i. omega (arith, c.type_inv.rule i)))
