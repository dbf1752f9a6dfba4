-- `add_all` meets its contract. The loop's invariant is `Waits`: the code so far is that of the formulas that the items so far make, and their bits wait.
use native.Mathlib.Omega.{arith}
use Rattle.emitter.proofs.Waiting.{waits_none, can_add, waits_next, waits_all}
use Rattle.emitter.proofs.emission.Emission.add_all.Goals as goal

pub loop-item-init : goal.loop-item-init
loop-item-init c = waits_none _ c.requires.none

pub add-requires : goal.add-requires
add-requires c = can_add _ c.requires.ready _ (omega arith) _ c.loop-item.invariant

pub loop-item-preserved : goal.loop-item-preserved
loop-item-preserved c = waits_next _ c.requires.ready _ (omega arith) _ c.loop-item.invariant _ c.add.ensures

pub returns : goal.returns
returns c = waits_all _ _ _ (omega arith) c.loop-item.invariant
