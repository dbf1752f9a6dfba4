-- The number and the place of each refusal. Document 01, "Refusal numbers": "Each returns number and place .. A refusal
-- for which no place is named gives place 0."
use Rattle.std.specs.Prelude.{ℕ}
use Rattle.ground.specs.declared.refusal.Refusal.{Refusal}

-- The column "No.", in its order
abbrev pub number_of : Refusal → ℕ
number_of Refusal.Empty = 1
number_of (Refusal.UnknownCode at) = 2
number_of (Refusal.CutShort at) = 3
number_of (Refusal.NotShortest at) = 4
number_of (Refusal.FlagTooLarge at) = 5
number_of (Refusal.BadWindow at) = 6
number_of (Refusal.TooFewOperands at) = 7
number_of (Refusal.RuleTooLarge at) = 8
number_of (Refusal.NotOneValue at) = 9
number_of (Refusal.NotEarlier at) = 10
number_of (Refusal.BadWidth at) = 11
number_of (Refusal.CodeTooLarge at) = 12
number_of Refusal.BadClip = 13
number_of Refusal.ShortWitness = 14
number_of Refusal.NoRoom = 15
number_of Refusal.ShortOutput = 16

-- The column "Place": the item's offset, for 9 the length, else 0
abbrev pub place_of : Refusal → ℕ
place_of Refusal.Empty = 0
place_of (Refusal.UnknownCode at) = at
place_of (Refusal.CutShort at) = at
place_of (Refusal.NotShortest at) = at
place_of (Refusal.FlagTooLarge at) = at
place_of (Refusal.BadWindow at) = at
place_of (Refusal.TooFewOperands at) = at
place_of (Refusal.RuleTooLarge at) = at
place_of (Refusal.NotOneValue at) = at
place_of (Refusal.NotEarlier at) = at
place_of (Refusal.BadWidth at) = at
place_of (Refusal.CodeTooLarge at) = at
place_of Refusal.BadClip = 0
place_of Refusal.ShortWitness = 0
place_of Refusal.NoRoom = 0
place_of Refusal.ShortOutput = 0
