-- `item_at` meets its contract: each way is a law of `item_at`, by the count that `numbers_of` gives.
use Rattle.std.proofs.Common.{rules, ◌≡◌, sym, ◌∙◌}
use Rattle.std.specs.Prelude.{None, Some, Err}
use Rattle.ground.specs.declared.refusal.Refusal.TheVariants.{UnknownCode}
use Rattle.reading.proofs.Items.{ended, unknown, known}
use Rattle.reading.proofs.item.item_at.Goals as goal

pub returns-then-bytes-at : goal.returns-then-bytes-at
returns-then-bytes-at c = ended _ _ _ c.if-bytes-at.true

pub returns-in_err-count : goal.returns-in_err-count
returns-in_err-count c =
    let e : c.from_residual.result ≡ Err (UnknownCode c.args.at) = search rules in
    let n : c.numbers_of.result ≡ None = search rules in
    e ∙ unknown _ _ _ (search rules) (sym c.numbers_of.ensures ∙ n)

pub returns : goal.returns
returns c =
    let n : c.numbers_of.result ≡ Some c.in_ok-count.count = search rules in
    c.read_numbers.ensures ∙ known _ _ _ (search rules) _ (sym c.numbers_of.ensures ∙ n)
