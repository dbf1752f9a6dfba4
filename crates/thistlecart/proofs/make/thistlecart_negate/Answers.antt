-- `thistlecart_negate` meets its contract: every answer of a maker fits into the word.
use native.Mathlib.Omega.{arith}
use Rattle.makers.specs.Making.{negation}
use Rattle.makers.proofs.Making.{negation_bytes}
use Rattle.thistlecart.proofs.MakeEntry.{one_fits}
use Rattle.thistlecart.proofs.make.thistlecart_negate.Goals as goal

pub made_word-requires : goal.made_word-requires
made_word-requires c =
    one_fits negation _ _ _ _ negation_bytes (λ i. omega (arith, c.type_inv.rule i)) c.negate.ensures
