-- Samples of code: one table, and what it is for a row to be right. Document 01: the code of its sample of a run, and
-- of "* Rule `12 00 32 02 04` emits `02 00 01 04 01 00 02 05 02 02`"; and code at the edges of the refusals.
use Rattle.std.specs.Prelude.{◌≡◌, List, [], ◌∷◌, ℕ, Ok, Err}
use Rattle.ground.specs.declared.refusal.Refusal.{Refusal}
use Rattle.code.specs.Loading.{read_code, loaded_code_of}

-- A row: code and how many instructions it has, or code and its refusal
pub data Sample : Type 0 where
  accepts : List ℕ → ℕ → Sample
  refuses : List ℕ → Refusal → Sample

-- A row is right by the definitions that the contracts cite
abbrev pub CodeRight : Sample → Type 0
CodeRight (accepts code n) = loaded_code_of (read_code code) ≡ Ok n
CodeRight (refuses code refusal) = loaded_code_of (read_code code) ≡ Err refusal

-- The code of rule `12 00 12 01 30 01 03`: FLAG 0, FLAG 1, REACH of the two with w 2, LATER 1
abbrev pub sample_code : List ℕ
sample_code = 0x02 ∷ 0x00 ∷ 0x02 ∷ 0x01 ∷ 0x04 ∷ 0x00 ∷ 0x01 ∷ 0x02 ∷ 0x05 ∷ 0x02 ∷ 0x01 ∷ []

-- The table
unfoldable pub samples : List Sample
samples =
    accepts sample_code 4
    ∷ accepts (0x02 ∷ 0x00 ∷ 0x01 ∷ 0x04 ∷ 0x01 ∷ 0x00 ∷ 0x02 ∷ 0x05 ∷ 0x02 ∷ 0x02 ∷ []) 4
    ∷ accepts (0x01 ∷ []) 1
    ∷ refuses (0x10 ∷ []) (Refusal.UnknownCode 0)
    ∷ refuses (0x01 ∷ 0x04 ∷ 0x00 ∷ 0x00 ∷ []) (Refusal.CutShort 1)
    ∷ refuses (0x02 ∷ 0x80 ∷ 0x00 ∷ []) (Refusal.NotShortest 0)
    ∷ refuses (0x02 ∷ 0x08 ∷ []) (Refusal.FlagTooLarge 0)
    ∷ refuses (0x01 ∷ 0x05 ∷ 0x01 ∷ 0x00 ∷ []) (Refusal.NotEarlier 1)
    ∷ refuses (0x01 ∷ 0x05 ∷ 0x00 ∷ 0x00 ∷ []) (Refusal.BadWidth 1)
    ∷ refuses (0x01 ∷ 0x04 ∷ 0x00 ∷ 0x00 ∷ 0x80 ∷ 0x02 ∷ []) (Refusal.BadWidth 1)
    ∷ accepts (0x01 ∷ 0x04 ∷ 0x00 ∷ 0x00 ∷ 0xff ∷ 0x01 ∷ []) 2
    ∷ []
