-- What a run answers fits into the word: document 01's "number and place" alone.
use Rattle.std.specs.Prelude.{Result, Ok, Err}
use Rattle.ground.specs.declared.refusal.Refusal.{Refusal}
use Rattle.thistlecart.specs.Inner.Words.{PlaceFits}

-- What a run answers fits
abbrev pub RanFits : Result (Unit {0}) Refusal → Type 0
RanFits (Ok done) = Unit {0}
RanFits (Err r) = PlaceFits r
