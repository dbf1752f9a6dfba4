-- `at_end` meets its contract: exactly one value waits, or the rule is refused.
use Rattle.rules.proofs.Gathering.{found_not_one, found_one}
use Rattle.rules.proofs.load.at_end.Goals as goal

pub returns-then-gathered-ne1 : goal.returns-then-gathered-ne1
returns-then-gathered-ne1 c is f = found_not_one _ is _ f c.if-gathered-ne1.true

pub returns : goal.returns
returns c is f = rw c.from.ensures (found_one _ is _ f c.if-gathered-ne1.false)
