-- `explore` meets its contract. Before each length the search stands where `Tries` says, with a table as long as before. The measure is the records that are
-- not behind it yet.
use mathlib.Core.Path.{◌≡◌}
use Prim.Native.Nat.{◌-◌}
use lib.ListN.{length}
use Rattle.table.specs.Inner.Records.{room_in}
use Rattle.finder.specs.Inner.Explore.{Tries}
use Rattle.finder.proofs.explore.explore.Given as goal

abbrev pub invariant-loop-passed : goal.invariant-loop-passed
invariant-loop-passed l =
    Tries l.code l.passed l.table l.first l.ended l.stored × (length l.table ≡ length l.initial.table)

abbrev pub decreases-loop-passed : goal.decreases-loop-passed
decreases-loop-passed l = room_in l.initial.table - l.ended
