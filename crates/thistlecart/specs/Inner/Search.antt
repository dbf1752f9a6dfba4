-- What the search answers fits into the word. Document 01: "room is the table's length divided by 80, rounded down, at
-- most 65,536".
use Rattle.std.specs.Prelude.{IfSome, Result, Ok, Err, ◌≤◌, ◌<◌}
use Rattle.ground.specs.declared.refusal.Refusal.{Refusal}
use Rattle.finder.specs.declared.search.Found.{Found}
use Rattle.thistlecart.specs.Inner.Words.{PlaceFits}
use Rattle.thistlecart.specs.Words.{bit16, bit32}

-- A length fits into bits 16 to 31, states into those from 32 on; a state is counted at least
abbrev pub FoundFits : Result Found Refusal → Type 0
FoundFits (Ok found) = IfSome found.length (λ length. length < bit16) × (1 ≤ found.states) × (found.states < bit32)
FoundFits (Err r) = PlaceFits r
