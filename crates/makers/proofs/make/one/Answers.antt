-- `one` meets its contract: a rule that is accepted is short enough to be joined with an operator.
use mathlib.Core.Path.{sym, ◌∙◌}
use native.Mathlib.Omega.{arith}
use Rattle.makers.proofs.Making.{rule_short}
use Rattle.makers.proofs.make.one.Goals as goal

pub join-requires : goal.join-requires
join-requires c =
    omega (arith, rule_short _ c.args.rule.now _ (λ i. omega (arith, c.type_inv.rule i)) (sym c.in_ok-check.was ∙ c.check.ensures), c.requires)
