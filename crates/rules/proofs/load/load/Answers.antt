-- `load` meets its contract: what is told of the rule that `decode` keeps is what loading tells.
use Rattle.std.proofs.Common.{sym, ap, ◌∙◌, Ok}
use Rattle.rules.proofs.Loaded.{told}
use Rattle.rules.proofs.load.load.Goals as goal

pub returns : goal.returns
returns c = ap Ok c.loaded.ensures ∙ told _ _ (sym c.in_ok-rule.was ∙ c.decode.ensures)
