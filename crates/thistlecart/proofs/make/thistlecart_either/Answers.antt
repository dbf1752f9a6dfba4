-- `thistlecart_either` meets its contract: every answer of a maker fits into the word.
use native.Mathlib.Omega.{arith}
use Rattle.makers.specs.Making.{disjunction}
use Rattle.makers.proofs.Making.{disjunction_bytes}
use Rattle.thistlecart.proofs.MakeEntry.{two_fits}
use Rattle.thistlecart.proofs.make.thistlecart_either.Goals as goal

pub made_word-requires : goal.made_word-requires
made_word-requires c =
    two_fits disjunction _ _ _ _ _ disjunction_bytes (λ i. omega (arith, c.type_inv.first i))
    (λ i. omega (arith, c.type_inv.second i)) c.either.ensures
