-- `standing_of` meets its contract: what loading and the search answer is what is told of the rule.
use Rattle.std.proofs.Common.{◌≡◌, sym, ◌∙◌, Err, rules}
use Rattle.ground.specs.declared.refusal.Refusal.{Refusal}
use Rattle.standing.proofs.Stands.{told_refused, told_unsearched, told_found}
use Rattle.standing.proofs.standing.standing_of.Goals as goal

pub returns-in_err-loaded : goal.returns-in_err-loaded
returns-in_err-loaded c =
    let (r, e, f) : (r : Refusal) × (c.load.result ≡ Err r) × (c.from_residual.result ≡ Err r) = search rules in
    rw f (told_refused _ _ _ r (sym e ∙ c.load.ensures))

pub returns-in_err-found : goal.returns-in_err-found
returns-in_err-found c =
    let (r, e, f) : (r : Refusal) × (c.search.result ≡ Err r) × (c.from_residual-in_err-found.result ≡ Err r) = search rules in
    rw f (told_unsearched _ _ _ c.in_ok-loaded.loaded c.in_ok-loaded.ensures _ _ r (rw e at c.search.ensures))

pub returns : goal.returns
returns c = told_found _ _ _ c.in_ok-loaded.loaded c.in_ok-loaded.ensures _ _ c.in_ok-found.found c.in_ok-found.ensures
