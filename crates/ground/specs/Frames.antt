-- Frames and clips. Document 01: "A clip is a byte for each frame; flag k is bit k (value 2 to the power k). Frame 0 is
-- the earliest."
use Rattle.std.specs.Prelude.{Bool, List, ℕ, ◌/◌, ◌%◌, ◌^◌, eqb}

-- A clip: its frames, the earliest first
abbrev pub Clip : Type 0
Clip = List ℕ

-- Whether a frame has flag k
unfoldable pub has_flag : ℕ → ℕ → Bool
has_flag k frame = eqb (frame / 2 ^ k % 2) 1
