-- `thistlecart_run` meets its contract: every answer of a run fits into the word.
use mathlib.Core.Path.{subst, sym}
use native.Mathlib.Omega.{arith}
use Rattle.thistlecart.proofs.RunEntry.{ran_fits}
use Rattle.thistlecart.specs.Inner.Run.{RanFits}
use Rattle.thistlecart.proofs.run.thistlecart_run.Goals as goal

pub ran_word-requires : goal.ran_word-requires
ran_word-requires c =
    subst RanFits (sym c.run.ensures.answer) (ran_fits _ _ _ (λ i. omega (arith, c.type_inv.code i)))
