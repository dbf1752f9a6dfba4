-- What a maker answers fits into the word. Document 01: "At most 64 items, 16 of them timed".
use Rattle.std.specs.Prelude.{Ok, Err, ◌<◌}
use Rattle.makers.specs.Making.{Made}
use Rattle.thistlecart.specs.Inner.Words.{PlaceFits}
use Rattle.thistlecart.specs.Words.{bit24}

-- A length fits into bits 8 to 31
abbrev pub MadeFits : Made → Type 0
MadeFits (Ok length) = length < bit24
MadeFits (Err e) = PlaceFits e.refusal
