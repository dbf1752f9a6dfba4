-- What emitting answers fits into the word. Document 01: "Code is accepted with 1 to 320 instructions".
use Rattle.std.specs.Prelude.{Result, Ok, Err, ℕ, ◌<◌}
use Rattle.ground.specs.declared.refusal.Refusal.{Refusal}
use Rattle.thistlecart.specs.Inner.Words.{PlaceFits}
use Rattle.thistlecart.specs.Words.{bit24}

-- A length fits into bits 8 to 31
abbrev pub EmittedFits : Result ℕ Refusal → Type 0
EmittedFits (Ok length) = length < bit24
EmittedFits (Err r) = PlaceFits r
