-- Document 01's samples that are marked to be proved, as far as they concern loading and meaning: one table, and what
-- it is for a row to be right.
use Rattle.std.specs.Prelude.{◌≡◌, Bool, true, false, Ok, Err, List, [], ◌∷◌, ℕ}
use Rattle.ground.specs.declared.refusal.Refusal.{Refusal}
use Rattle.rules.specs.Formula.{Formula}
use Rattle.rules.specs.Loading.{Reading, accepted, refused, read_rule, loaded_of}
use Rattle.ground.specs.Frames.{Clip}
use Rattle.rules.specs.Meaning.{holds}

-- A row: a rule and its items and horizon, a rule and its refusal, or a rule, a clip and for each frame whether the
-- clip from it satisfies the rule
pub data Sample : Type 0 where
  accepts : List ℕ → ℕ → ℕ → Sample
  refuses : List ℕ → Refusal → Sample
  each_frame : List ℕ → Clip → List Bool → Sample

-- Whether a rule holds on the clip from each frame
unfoldable pub from_each : Formula → Clip → List Bool
from_each f [] = []
from_each f (x ∷ c) = holds f (x ∷ c) ∷ from_each f c

-- The same of a rule that was read; of a refused one there is nothing to say
abbrev pub verdicts_read : Reading → Clip → List Bool
verdicts_read (accepted is f) c = from_each f c
verdicts_read (refused r) c = []

-- A row is right by the definitions that the contracts cite
abbrev pub LoadedRight : Sample → Type 0
LoadedRight (accepts rule items horizon) = loaded_of (read_rule rule) ≡ Ok (record { items = items; horizon = horizon })
LoadedRight (refuses rule refusal) = loaded_of (read_rule rule) ≡ Err refusal
LoadedRight (each_frame rule clip bits) = verdicts_read (read_rule rule) clip ≡ bits

-- The table
unfoldable pub samples : List Sample
samples =
    accepts (0x12 ∷ 0x00 ∷ []) 1 0
    ∷ accepts (0x10 ∷ []) 1 0
    ∷ accepts (0x11 ∷ []) 1 0
    ∷ accepts (0x12 ∷ 0x00 ∷ 0x12 ∷ 0x00 ∷ 0x20 ∷ 0x21 ∷ []) 4 0
    ∷ accepts (0x12 ∷ 0x00 ∷ 0x32 ∷ 0x02 ∷ 0x04 ∷ []) 2 4
    ∷ accepts (0x12 ∷ 0x00 ∷ 0x33 ∷ 0x02 ∷ 0x04 ∷ []) 2 4
    ∷ accepts (0x10 ∷ 0x32 ∷ 0x01 ∷ 0x01 ∷ []) 2 1
    ∷ accepts (0x12 ∷ 0x00 ∷ 0x33 ∷ 0x00 ∷ 0x02 ∷ 0x12 ∷ 0x00 ∷ 0x20 ∷ 0x32 ∷ 0x01 ∷ 0x01 ∷ 0x21 ∷ []) 6 2
    ∷ refuses (0x12 ∷ 0x08 ∷ []) (Refusal.FlagTooLarge 0)
    ∷ refuses (0x12 ∷ []) (Refusal.CutShort 0)
    ∷ refuses (0x12 ∷ 0x80 ∷ 0x00 ∷ []) (Refusal.NotShortest 0)
    ∷ refuses (0x12 ∷ 0x00 ∷ 0x32 ∷ 0x04 ∷ 0x02 ∷ []) (Refusal.BadWindow 2)
    ∷ refuses (0x12 ∷ 0x00 ∷ 0x32 ∷ 0x00 ∷ 0x80 ∷ 0x02 ∷ []) (Refusal.BadWindow 2)
    ∷ refuses (0x21 ∷ []) (Refusal.TooFewOperands 0)
    ∷ refuses (0x10 ∷ 0x10 ∷ []) (Refusal.NotOneValue 2)
    ∷ each_frame (0x12 ∷ 0x00 ∷ 0x12 ∷ 0x01 ∷ 0x30 ∷ 0x01 ∷ 0x03 ∷ []) (0x00 ∷ 0x01 ∷ 0x02 ∷ [])
    (true ∷ true ∷ false ∷ [])
    ∷ each_frame (0x12 ∷ 0x00 ∷ 0x33 ∷ 0x02 ∷ 0x04 ∷ []) (0x00 ∷ []) (true ∷ [])
    ∷ each_frame (0x10 ∷ 0x32 ∷ 0x01 ∷ 0x01 ∷ []) (0x00 ∷ 0x00 ∷ []) (true ∷ false ∷ [])
    ∷ each_frame (0x12 ∷ 0x00 ∷ 0x32 ∷ 0x02 ∷ 0x04 ∷ []) (0x00 ∷ 0x00 ∷ 0x01 ∷ []) (true ∷ false ∷ false ∷ [])
    ∷ []
