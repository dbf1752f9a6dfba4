-- `keep` meets its contract: what the look-up and the store leave is one of the turns of a trial that does not satisfy.
use mathlib.Core.Path.{◌≡◌}
use Prim.Native.Nat.{ℕ}
use native.Mathlib.Omega.{arith}
use Rattle.std.proofs.Common.{None}
use Rattle.table.specs.Inner.Tables.{Filled, Looks}
use Rattle.finder.proofs.Turns.{keeping_known, keeping_none, keeping_full, keeping_new}
use Rattle.finder.proofs.explore.keep.Goals as goal
use Rattle.finder.proofs.explore.keep.Goals.{Else-is_some}

-- the state is not stored
nowhere : (c : Else-is_some) → (s : ℕ) → Filled c.args.table.now s → Looks c.args.table.now s c.args.registers None
nowhere c s f = let none : c.find.result ≡ None = grind arith in rw none at (c.find.ensures s f)

pub returns-then-is_some : goal.returns-then-is_some
returns-then-is_some c = keeping_known _ _ _ _ (cc (c.is_some.ensures, c.if-is_some.true)) c.find.ensures _

pub returns-in_err-count : goal.returns-in_err-count
returns-in_err-count c =
    rw (c.in_err-count.was, c.from_residual.ensures) (keeping_none _ _ _ (nowhere (goal.at.returns-in_err-count c).Else-is_some))

pub returns-then-table-count : goal.returns-then-table-count
returns-then-table-count c =
    rw c.in_ok-count.was
    (keeping_full _ _ _ (nowhere (goal.at.returns-then-table-count c).Else-is_some) _ (omega (arith, c.if-table-count.true)))

pub returns : goal.returns
returns c =
    rw c.in_ok-count.was
    (keeping_new _ _ _ (nowhere (goal.at.returns c).Else-is_some) _ (omega (arith, c.if-table-count.false)) _ c.store.ensures)
