-- The program's text. Document 01, "Program": "input bytes and items; horizon; length and states; the frames, two
-- lower-case hex digits each. With none: `none 4 states` and no fourth line. A refusal: only `refused 5 at 0` (number,
-- place). The words stay the same for a count of 1."
use Rattle.std.specs.Prelude.{List, [], ◌∷◌, ◌++◌, ℕ, length}
use Rattle.ground.specs.Frames.{Clip}
use Rattle.ground.specs.Refusals.{number_of, place_of}
use Rattle.ground.specs.declared.refusal.Refusal.{Refusal}
use Rattle.text.specs.Digits.{ascii, decimal, hex_byte}

-- Frames, a space before each
unfoldable pub spaced : Clip → List ℕ
spaced [] = []
spaced (x ∷ c) = ascii " " ++ (hex_byte x ++ spaced c)

-- A line of frames
abbrev pub frames_text : Clip → List ℕ
frames_text [] = ascii "\n"
frames_text (x ∷ c) = hex_byte x ++ (spaced c ++ ascii "\n")

-- The lines on a rule: input bytes, items and horizon
abbrev pub head_text : ℕ → ℕ → ℕ → List ℕ
head_text bytes items horizon =
    (ascii "rule " ++ decimal bytes)
    ++ ((ascii " bytes " ++ decimal items) ++ ((ascii " items\nhorizon " ++ decimal horizon) ++ ascii "\n"))

-- The lines on a clip that meets it: length, states and frames
abbrev pub met_text : ℕ → Clip → List ℕ
met_text states frames =
    (ascii "met " ++ decimal (length frames))
    ++ ((ascii " frames " ++ decimal states) ++ (ascii " states\n" ++ frames_text frames))

-- The line that there is none
abbrev pub none_text : ℕ → List ℕ
none_text states = (ascii "none " ++ decimal states) ++ ascii " states\n"

-- The line of a refusal: number and place
abbrev pub refused_text : Refusal → List ℕ
refused_text r = (ascii "refused " ++ decimal (number_of r)) ++ ((ascii " at " ++ decimal (place_of r)) ++ ascii "\n")
