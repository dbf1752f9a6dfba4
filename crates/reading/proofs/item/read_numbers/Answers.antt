-- `read_numbers` meets its contract. The loop's invariant is `ReadingNumbers`, and each way on is one of its laws.
use Rattle.std.proofs.Common.{rules, ◌≡◌, sym, refl, ◌∙◌}
use Rattle.std.specs.Prelude.{Ok, Err}
use Rattle.reading.specs.Numbers.{fault_at, number_at}
use Rattle.reading.specs.declared.number.Fault.{Fault}
use Rattle.reading.proofs.Items.{start, more, fault, whole, one_of}
use Rattle.reading.proofs.item.read_numbers.Goals as goal

pub loop-number-init : goal.loop-number-init
loop-number-init c = start _ _ _ _ c.requires.1

pub returns-in_err-read : goal.returns-in_err-read
returns-in_err-read c =
    let (f, e, r) : (f : Fault) × (c.read_number.result ≡ Err f) × (c.from_residual.result ≡ Err (fault_at c.args.at f)) = search rules in
    r ∙ fault _ _ _ _ c.loop-number.invariant (one_of _ _ _ c.loop-number-test.true) f (sym e ∙ c.read_number.ensures)

pub loop-number-preserved : goal.loop-number-preserved
loop-number-preserved c =
    let e : Ok c.in_ok-read.read ≡ number_at c.args.bytes.now c.loop-number.next = search rules in
    more _ _ _ _ c.loop-number.invariant (one_of _ _ _ c.loop-number-test.true) _ _ e

pub returns : goal.returns
returns c = whole _ _ _ _ c.loop-number.invariant _ refl (search rules)
