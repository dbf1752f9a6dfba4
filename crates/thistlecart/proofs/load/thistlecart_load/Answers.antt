-- `thistlecart_load` meets its contract: every answer of loading fits into the word.
use mathlib.Core.Path.{subst, sym}
use native.Mathlib.Omega.{arith}
use Rattle.thistlecart.proofs.LoadEntry.{loaded_fits}
use Rattle.thistlecart.specs.Inner.Load.{LoadedFits}
use Rattle.thistlecart.proofs.load.thistlecart_load.Goals as goal

pub load_word-requires : goal.load_word-requires
load_word-requires c =
    subst LoadedFits (sym c.load.ensures) (loaded_fits _ (λ i. omega (arith, c.type_inv.rule i)))
