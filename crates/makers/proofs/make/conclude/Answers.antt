-- `conclude` meets its contract: past the tests of rule and room the new bytes are written.
use mathlib.Core.Path.{sym, ◌∙◌}
use Rattle.makers.proofs.Making.{new_length}
use Rattle.makers.proofs.make.conclude.Goals as goal

pub returns : goal.returns
returns c =
    new_length _ c.args.out.now _ (sym c.in_ok-check.was ∙ c.check.ensures) _ _ c.if-out-new.false
    (c.write_bytes.ensures.buffer, c.write_bytes.ensures.place)
