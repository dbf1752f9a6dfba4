-- The bytes that matter to code: it names the flags of its FLAG instructions, and a byte with another flag is passed
-- over. Contracts of inner functions cite it; `search` says nothing of it.
use Rattle.std.specs.Prelude.{◌≡◌, Bool, true, false, List, ℕ, ◌+◌, ◌<◌, length, get_or}
use Rattle.ground.specs.Frames.{has_flag}
use Rattle.ground.specs.Limits.{limits}
use Rattle.paths.specs.Inner.Searching.{frame_bytes}
use Rattle.code.specs.declared.instruction.Instruction.TheVariants.{One, Flag}
use Rattle.code.specs.Code.{Code}

-- How many flags a frame has
abbrev pub flags : ℕ
flags = limits.flag + 1

-- Code names a flag
abbrev pub Names : Code → ℕ → Type 0
Names code k = (n : ℕ) × (n < length code) × (get_or code n One ≡ Flag k)

-- An entry for each flag, true for every flag that code names; it may be true for others
pub record NamedBy (code : Code) (named : List Bool) : Type 0 where
  pub all : length named ≡ flags
  pub own : (k : ℕ) → Names code k → get_or named k false ≡ true

-- A byte has a flag that is not named
abbrev pub HasOther : List Bool → ℕ → Type 0
HasOther named byte = (k : ℕ) × (has_flag k byte ≡ true) × (get_or named k false ≡ false)

-- Whether a byte is passed over: only if it has a flag that is not named
abbrev pub Other : List Bool → ℕ → Bool → Type 0
Other named byte passed = passed ≡ true → HasOther named byte

-- The first bytes that are passed over
pub record Passed (named passed : List Bool) (n : ℕ) : Type 0 where
  pub all : length passed ≡ frame_bytes
  pub own : (byte : ℕ) → byte < n → Other named byte (get_or passed byte false)

-- Bytes that are passed over with code: each has a flag that the code does not name
pub record PassesOver (code : Code) (passed : List Bool) : Type 0 where
  pub all : length passed ≡ frame_bytes
  pub own : (byte : ℕ) → byte < frame_bytes → get_or passed byte false ≡ true → (k : ℕ) × (has_flag k byte ≡ true)
      × (Names code k → ⊥)
