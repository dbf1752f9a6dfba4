-- The measure of `write_before` is the number: each call writes the digits of its tenth part.
use Rattle.text.proofs.digits.+write_before.Given as goal

abbrev pub decreases-write_before : goal.decreases-write_before
decreases-write_before l = l.n
