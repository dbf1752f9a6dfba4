-- `emit` meets its contract: a rule that is loaded has its items emitted, and a refusal is the rule's own.
use Rattle.std.proofs.Common.{◌≡◌, sym, ◌∙◌, Err, arith, rules}
use Rattle.ground.specs.declared.refusal.Refusal.{Refusal}
use Rattle.rules.proofs.Loaded.{Accepts, accepts}
use Rattle.emitter.proofs.Answered.{can_write, says_emitted, says_refused}
use Rattle.emitter.proofs.emit.emit.Goals as goal
use Rattle.emitter.proofs.emit.emit.Goals.{In_ok-rule}

-- the rule is accepted
is_accepted : (c : In_ok-rule) → Accepts c.args.rule.now c.in_ok-rule.rule
is_accepted c = accepts c.args.rule.now _ (record { small = λ i. omega (arith, c.type_inv.rule i); own = sym c.in_ok-rule.was ∙ c.decode.ensures })

pub returns-in_err-rule : goal.returns-in_err-rule
returns-in_err-rule c =
    let (r, e, f) : (r : Refusal) × (c.decode.result ≡ Err r) × (c.from_residual.result ≡ Err r) = search rules in
    rw f (says_refused _ _ _ (sym e ∙ c.decode.ensures))

pub emit_items-requires : goal.emit_items-requires
emit_items-requires c = let at = (goal.at.emit_items-requires c).In_ok-rule in can_write _ _ (is_accepted at) _ c.items.ensures

pub returns : goal.returns
returns c = let at = (goal.at.returns c).In_ok-rule in says_emitted _ _ (is_accepted at) _ c.items.ensures _ _ _ c.emit_items.ensures
