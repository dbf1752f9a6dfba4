-- `search` meets its contract: the rule's refusal, 14, or what the search by the rule's code answers.
use native.Mathlib.Omega.{arith}
use Rattle.std.proofs.lemmas.Result.{err_from_is_err_and}
use Rattle.finder.proofs.Answered.{can_search, says_unprepared, says_short, says_answers}
use Rattle.finder.proofs.search.search.Goals as goal

pub returns-in_err-prepared : goal.returns-in_err-prepared
returns-in_err-prepared c =
    let p = err_from_is_err_and c.from_residual.result c.from_residual.ensures.1 in
    rw (p.1, p.2) (says_unprepared _ _ _ _ c.in_err-prepared.ensures)

pub returns-then-witness-prepared : goal.returns-then-witness-prepared
returns-then-witness-prepared c =
    says_short _ _ c.in_ok-prepared.ensures (λ i. omega (arith, c.type_inv.rule i)) _ c.if-witness-prepared.true _

pub search_code-requires : goal.search_code-requires
search_code-requires c =
    rw c.code.ensures (can_search _ _ c.in_ok-prepared.ensures (λ i. omega (arith, c.type_inv.rule i)) _ c.if-witness-prepared.false)

pub returns : goal.returns
returns c =
    let answers = rw c.code.ensures at c.search_code.ensures in
    says_answers _ _ c.in_ok-prepared.ensures (λ i. omega (arith, c.type_inv.rule i)) _ c.if-witness-prepared.false _ _ _ _ answers
