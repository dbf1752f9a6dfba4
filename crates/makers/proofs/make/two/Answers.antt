-- `two` meets its contract: two rules that are accepted are short enough to be joined with an operator.
use mathlib.Core.Path.{sym, ◌∙◌}
use native.Mathlib.Omega.{arith}
use Rattle.makers.proofs.Making.{rule_short}
use Rattle.makers.proofs.make.two.Goals as goal

pub join-requires : goal.join-requires
join-requires c =
    let first = rule_short _ c.args.first.now _ (λ i. omega (arith, c.type_inv.first i)) (sym c.in_ok-check.was ∙ c.check.ensures) in
    let second = rule_short _ c.args.second.now _ (λ i. omega (arith, c.type_inv.second i)) (sym c.in_ok-check-2.was ∙ c.check-2.ensures) in
    omega (arith, first, second, c.requires)
