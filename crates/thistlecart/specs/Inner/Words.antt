-- A refusal that fits into the word. Every place does: it is inside the items that document 01's limits allow.
use Rattle.std.specs.Prelude.{◌<◌}
use Rattle.ground.specs.Refusals.{place_of}
use Rattle.ground.specs.declared.refusal.Refusal.{Refusal}
use Rattle.thistlecart.specs.Words.{bit32}

-- A place fits into bits 8 to 39
abbrev pub PlaceFits : Refusal → Type 0
PlaceFits r = place_of r < bit32
