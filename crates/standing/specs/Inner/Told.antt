-- What is told of a rule, and the text on it.
use Rattle.std.specs.Prelude.{◌≡◌, Result, Ok, Err, IfOk, List, ℕ, length}
use Rattle.ground.specs.declared.refusal.Refusal.{Refusal}
use Rattle.rules.specs.Loading.{read_rule}
use Rattle.finder.specs.Search.{SearchSays}
use Rattle.finder.specs.declared.search.Found.{Found}
use Rattle.standing.specs.declared.standing.Standing.{Standing}
use Rattle.standing.specs.Inner.Within.{ClipWithin}
use Rattle.standing.specs.Standing.{found_text, standing_text}
use Rattle.standing.specs.Text.{refused_text}

-- The text on what is told of a rule of so many bytes, or on its refusal
abbrev pub told_text : ℕ → Result Standing Refusal → List ℕ → List ℕ
told_text bytes (Ok s) witness = found_text bytes s.loaded.items s.loaded.horizon (Ok s.found) witness
told_text bytes (Err r) witness = refused_text r

-- What is told of a rule: by what the search says of it, the text on it is the standing's
pub record Told (rule table witness : List ℕ) (told : Result Standing Refusal) (table' witness' : List ℕ) : Type 0 where
  pub found : Result Found Refusal
  pub says : SearchSays (read_rule rule) table witness found table' witness'
  pub own_text : standing_text (length rule) (read_rule rule) found witness' ≡ told_text (length rule) told witness'
  pub within : IfOk told (λ s. ClipWithin s.found witness')
