-- `thistlecart_next` meets its contract: every answer of a maker fits into the word.
use native.Mathlib.Omega.{arith}
use Rattle.makers.specs.Making.{next_frame}
use Rattle.makers.proofs.Making.{next_bytes}
use Rattle.thistlecart.proofs.MakeEntry.{one_fits}
use Rattle.thistlecart.proofs.make.thistlecart_next.Goals as goal

pub made_word-requires : goal.made_word-requires
made_word-requires c =
    one_fits next_frame _ _ _ _ next_bytes (λ i. omega (arith, c.type_inv.rule i)) c.next.ensures
