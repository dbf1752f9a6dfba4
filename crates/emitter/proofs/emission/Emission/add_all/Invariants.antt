-- `add_all` meets its contract. The loop's invariant is `Waits`: the code so far is that of the formulas that the items so far make, and their bits wait.
use lib.ListN.{take}
use Rattle.rules.specs.Loading.{stack_of}
use Rattle.emitter.proofs.Waiting.{Waits}
use Rattle.emitter.proofs.emission.Emission.add_all.Given as goal

abbrev pub invariant-loop-item : goal.invariant-loop-item
invariant-loop-item l = Waits l.self (stack_of (take l.item-index l.items))
