-- `thistlecart_both` meets its contract: every answer of a maker fits into the word.
use native.Mathlib.Omega.{arith}
use Rattle.makers.specs.Making.{conjunction}
use Rattle.makers.proofs.Making.{conjunction_bytes}
use Rattle.thistlecart.proofs.MakeEntry.{two_fits}
use Rattle.thistlecart.proofs.make.thistlecart_both.Goals as goal

pub made_word-requires : goal.made_word-requires
made_word-requires c =
    two_fits conjunction _ _ _ _ _ conjunction_bytes (λ i. omega (arith, c.type_inv.first i))
    (λ i. omega (arith, c.type_inv.second i)) c.both.ensures
