-- The answer word of the exported functions, which has 64 bits. Document 01: "Each returns number and place". The
-- lowest byte is the refusal's number, 0 where there is none; of a refusal, the place stands in bits 8 to 39. What else
-- stands in the word is said entry by entry.
use Rattle.std.specs.Prelude.{ℕ, ◌+◌, ◌*◌}
use Rattle.ground.specs.Refusals.{number_of, place_of}
use Rattle.ground.specs.declared.refusal.Refusal.{Refusal}

-- What bit 8 is worth
abbrev pub bit8 : ℕ
bit8 = 0x100

-- What bit 16 is worth
abbrev pub bit16 : ℕ
bit16 = 0x1_0000

-- What bit 24 is worth
abbrev pub bit24 : ℕ
bit24 = 0x100_0000

-- What bit 32 is worth
abbrev pub bit32 : ℕ
bit32 = 0x1_0000_0000

-- What bit 40 is worth
abbrev pub bit40 : ℕ
bit40 = 0x100_0000_0000

-- The word of a refusal
abbrev pub refusal_word : Refusal → ℕ
refusal_word r = number_of r + place_of r * bit8
