-- `read_number` meets its contract: the tests on the way to each return are the premises of one law of `number_at`.
use borrow.Author.Rules.{rules}
use native.Mathlib.Omega.{arith}
use borrow.Author.Tests.{eq-eqb, le-leb}
use mathlib.Core.Bool.{or-true}
use Rattle.reading.specs.Numbers.{group}
use Rattle.reading.proofs.Numbers.{ended, one, cut, long, two}
use Rattle.reading.proofs.number.read_number.Goals.{then-high-eq0-via-then-high-eq0, then-high-eq0-via-else-high-eq0+then-high-ge-GROUP}
use Rattle.reading.proofs.number.read_number.Goals as goal

pub returns-then-bytes-at : goal.returns-then-bytes-at
returns-then-bytes-at c = ended _ _ c.if-bytes-at.true

pub returns-then-low-lt-GROUP : goal.returns-then-low-lt-GROUP
returns-then-low-lt-GROUP c = one _ _ _ (search rules) c.wide-low.ensures.0 c.if-low-lt-GROUP.true

pub returns-then-bytes-second : goal.returns-then-bytes-second
returns-then-bytes-second c = cut _ _ _ (search rules) c.wide-low.ensures.0 c.if-low-lt-GROUP.false c.if-bytes-second.true

pub returns-then-high-eq0 : goal.returns-then-high-eq0
returns-then-high-eq0 c =
    elim c.then-high-eq0.branch [
      | then-high-eq0-via-then-high-eq0 w ↦
          long _ _ _ (search rules) c.wide-low.ensures.0 _ c.if-low-lt-GROUP.false (search rules) c.wide-high.ensures.0
          (rw (eq-eqb c.wide-high.result 0 (omega arith)))
      | then-high-eq0-via-else-high-eq0+then-high-ge-GROUP w ↦
          long _ _ _ (search rules) c.wide-low.ensures.0 _ c.if-low-lt-GROUP.false (search rules) c.wide-high.ensures.0
          (rw (le-leb group c.wide-high.result (omega arith), or-true))
    ]

pub returns : goal.returns
returns c =
    two _ _ _ (search rules) c.wide-low.ensures.0 _ c.if-low-lt-GROUP.false (search rules) c.wide-high.ensures.0 (omega arith) (omega arith)
