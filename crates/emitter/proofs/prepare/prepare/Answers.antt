-- `prepare` meets its contract: a rule that is loaded has its items translated, and a refusal is the rule's own.
use Rattle.std.proofs.Common.{◌≡◌, ◌∙◌, Err, arith, rules}
use Rattle.ground.specs.declared.refusal.Refusal.{Refusal}
use Rattle.rules.specs.Loading.{read_rule, rule_of}
use Rattle.rules.proofs.Loaded.{Accepts, accepts}
use Rattle.emitter.proofs.Preparing.{can_translate, prepared, refusal_kept}
use Rattle.emitter.proofs.prepare.prepare.Goals as goal
use Rattle.emitter.proofs.prepare.prepare.Goals.{In_ok-rule}

-- the rule is accepted
is_accepted : (c : In_ok-rule) → Accepts c.args.rule.now c.in_ok-rule.rule
is_accepted c = accepts c.args.rule.now _ (record { small = λ i. omega (arith, c.type_inv.rule i); own = search rules })

pub returns-in_err-rule : goal.returns-in_err-rule
returns-in_err-rule c =
    let (r, e, f) : (r : Refusal) × (Err r ≡ rule_of (read_rule c.args.rule.now)) × (c.from_residual.result ≡ Err r) = search rules in
    f ∙ refusal_kept _ _ e

pub translate-requires : goal.translate-requires
translate-requires c = let at = (goal.at.translate-requires c).In_ok-rule in can_translate _ _ (is_accepted at) _ c.items.ensures

pub returns : goal.returns
returns c = let at = (goal.at.returns c).In_ok-rule in prepared _ _ (is_accepted at) _ c.items.ensures _ _ c.loaded.ensures c.translate.ensures
