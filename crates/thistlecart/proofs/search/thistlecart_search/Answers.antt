-- `thistlecart_search` meets its contract: every answer that the search says fits into the word.
use native.Mathlib.Omega.{arith}
use Rattle.thistlecart.proofs.SearchEntry.{found_fits}
use Rattle.thistlecart.proofs.search.thistlecart_search.Goals as goal

pub found_word-requires : goal.found_word-requires
found_word-requires c =
    found_fits _ _ _ _ _ _ (λ i. omega (arith, c.type_inv.rule i)) c.search.ensures
