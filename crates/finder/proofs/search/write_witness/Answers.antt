-- `write_witness` meets its contract: the loop's invariant is `Walks`, and the measure is the number of the record, as links lead to records before.
use mathlib.Core.Path.{refl}
use Rattle.finder.proofs.Witness.{walks_first, walks_room, walks_less, walks_more, walks_all}
use Rattle.finder.proofs.search.write_witness.Goals as goal

pub loop-from-init : goal.loop-from-init
loop-from-init c = walks_first _ _ _ c.requires

pub bounds-witness-length : goal.bounds-witness-length
bounds-witness-length c = walks_room _ _ _ c.loop-from.invariant _ c.in-Some.ensures

pub loop-from-smaller : goal.loop-from-smaller
loop-from-smaller c = walks_less _ _ _ c.loop-from.invariant _ c.in-Some.ensures

pub loop-from-preserved : goal.loop-from-preserved
loop-from-preserved c = walks_more _ _ _ c.loop-from.invariant _ c.in-Some.ensures _ c.frame_at.ensures

pub returns : goal.returns
returns c = walks_all _ _ _ c.loop-from.invariant c.in_default.ensures c.args.witness.now refl
