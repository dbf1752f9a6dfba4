-- What the program writes of a rule: what the search says of it, as text. Document 01: "it reads up to 1,024 rule bytes
-- from standard input, lends a table of 65,536 bytes (819 records) and a witness buffer of the largest size that 14 can
-- ask".
use Rattle.std.specs.Prelude.{◌≡◌, Option, Some, None, Result, Ok, Err, List, ◌++◌, ℕ, ◌+◌, ◌*◌, length, take}
use Rattle.ground.specs.Buffers.{over}
use Rattle.ground.specs.Limits.{most_horizon}
use Rattle.ground.specs.declared.refusal.Refusal.{Refusal}
use Rattle.rules.specs.Formula.{horizon}
use Rattle.rules.specs.Loading.{Reading, accepted, refused, read_rule}
use Rattle.finder.specs.Search.{SearchSays}
use Rattle.finder.specs.declared.search.Found.{Found}
use Rattle.standing.specs.Text.{head_text, met_text, none_text, refused_text}

-- A bound on the text: three bytes for each frame of the longest clip, and a hundred for the rest
abbrev pub most_text : ℕ
most_text = 3 * (most_horizon + 1) + 100

-- The lines on a clip of so many frames, or that there is none, by the states and the witness buffer after the search
abbrev pub clip_text : Option ℕ → ℕ → List ℕ → List ℕ
clip_text (Some l) states witness = met_text states (take l witness)
clip_text None states witness = none_text states

-- The text on an accepted rule, by its bytes, items and horizon, what was found, and the witness buffer after it
abbrev pub found_text : ℕ → ℕ → ℕ → Result Found Refusal → List ℕ → List ℕ
found_text bytes items far (Ok found) witness =
    head_text bytes items far ++ clip_text found.length found.states witness
found_text bytes items far (Err r) witness = refused_text r

-- The text on a rule of so many bytes, by what was read, what the search found, and the witness buffer after it
abbrev pub standing_text : ℕ → Reading → Result Found Refusal → List ℕ → List ℕ
standing_text bytes (accepted is f) found witness = found_text bytes (length is) (horizon f) found witness
standing_text bytes (refused r) found witness = refused_text r

-- The text stands over the first bytes of its buffer, and says what the search says
pub record Prints (rule table witness text : List ℕ) (end : ℕ) (table' witness' text' : List ℕ) : Type 0 where
  pub found : Result Found Refusal
  pub says : SearchSays (read_rule rule) table witness found table' witness'
  pub own_text : text' ≡ over (standing_text (length rule) (read_rule rule) found witness') text
  pub own_length : end ≡ length (standing_text (length rule) (read_rule rule) found witness')
