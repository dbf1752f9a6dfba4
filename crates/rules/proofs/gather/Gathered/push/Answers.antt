-- `Gathered::push` meets its contract: an item that the check finds fine has room, and the stores are those of `gathers_more`.
use native.Mathlib.Omega.{arith}
use mathlib.Core.Path.{sym, ap, ◌∙◌}
use Rattle.rules.specs.Inner.Gathered.{Gathers}
use Rattle.rules.specs.Loading.{Items, item_outcome}
use Rattle.rules.proofs.Gathering.{OneMore, one_more, Space, space_of, near_of, gathers_more}
use Rattle.rules.proofs.gather.Gathered.push.Goals as goal
use Rattle.rules.proofs.gather.Gathered.push.Goals.{In_ok-counts}

-- the item that is fine, behind whatever items are gathered, and the room for it
more : (c : In_ok-counts) (is : Items) → Gathers c.args.self.now is → OneMore c.args.self.now is c.args.at c.args.item c.in_ok-counts.counts
more c is f = one_more _ _ _ _ _ _ f c.row_of-row.ensures (sym c.in_ok-counts.was ∙ c.check.ensures)

space : (c : In_ok-counts) → Space c.args.self.now c.row_of-row.result
space c = rw c.row_of-row.ensures (space_of _ _ _ _ _ (more c _ c.requires.1))

pub overflow_sub-bottom : goal.overflow_sub-bottom
overflow_sub-bottom c = (space (goal.at.overflow_sub-bottom c).In_ok-counts).operands

pub overflow_add-self : goal.overflow_add-self
overflow_add-self c =
    let m = more (goal.at.overflow_add-self c).In_ok-counts _ c.requires.1 in
    rw (c.largest-horizon.ensures, c.row_of-row.ensures) (omega (arith, space_of _ _ _ _ _ m, near_of _ _ _ _ _ m))

pub bounds-self-bottom : goal.bounds-self-bottom
bounds-self-bottom c = omega (arith, space (goal.at.bounds-self-bottom c).In_ok-counts)

pub bounds-self-place : goal.bounds-self-place
bounds-self-place c = (space (goal.at.bounds-self-place c).In_ok-counts).place

pub returns : goal.returns
returns c is f =
    let m = more (goal.at.returns c).In_ok-counts is f in
    (ap item_outcome m.passes, rw (c.largest-horizon.ensures, c.row_of-row.ensures) (gathers_more _ _ _ _ _ m))
