-- What loading answers fits into the word. Document 01: "At most 64 items, 16 of them timed"; "Bounds are 0 to 255".
use Rattle.std.specs.Prelude.{Result, Ok, Err, ◌<◌}
use Rattle.ground.specs.declared.refusal.Refusal.{Refusal}
use Rattle.rules.specs.declared.load.Loaded.{Loaded}
use Rattle.thistlecart.specs.Inner.Words.{PlaceFits}
use Rattle.thistlecart.specs.Words.{bit16, bit32}

-- Items fit into bits 8 to 23, a horizon into those from 24 on
abbrev pub LoadedFits : Result Loaded Refusal → Type 0
LoadedFits (Ok loaded) = (loaded.items < bit16) × (loaded.horizon < bit32)
LoadedFits (Err r) = PlaceFits r
