-- What is told of a rule, and what `write_standing` knows by it: there is room for the text on it, and once that is written from the buffer's first byte on it
-- stands over its first bytes.
use mathlib.Core.Path.{◌≡◌, refl}
use mathlib.Core.List.{List}
use Prim.Native.Nat.{ℕ, ◌≤◌}
use native.Mathlib.Nat.{zero-add}
use native.Mathlib.Omega.{arith}
use lib.ListN.{length}
use Rattle.std.proofs.Common.{Result, Ok, Err}
use Rattle.ground.specs.Buffers.{AllBytes}
use Rattle.ground.specs.declared.refusal.Refusal.{Refusal}
use Rattle.ground.proofs.Written.{written_fitting}
use Rattle.rules.specs.Formula.{Formula, horizon}
use Rattle.rules.specs.Loading.{Items, Reading, accepted, read_rule, loaded_of}
use Rattle.rules.specs.declared.load.Loaded.{Loaded}
use Rattle.rules.proofs.Accepted.{loaded_accepted, loaded_refused}
use Rattle.finder.specs.Search.{SearchSays}
use Rattle.finder.specs.declared.search.Found.{Found}
use Rattle.finder.proofs.Answered.{says_refused}
use Rattle.text.specs.Inner.Writing.{Room, Puts}
use Rattle.standing.specs.declared.standing.Standing.{Standing}
use Rattle.standing.specs.Inner.Told.{told_text, Told}
use Rattle.standing.specs.Standing.{most_text, found_text, standing_text, Prints}
use Rattle.standing.proofs.Said.{shown, text_fits}

-- Loading refuses it: the search would say so, and both buffers are as they were
pub told_refused : (rule table witness : List ℕ) (r : Refusal) → Err r ≡ loaded_of (read_rule rule)
    → Told rule table witness (Err r) table witness
told_refused rule table witness r e =
    record { found = Err r; says = says_refused rule table witness r e; own_text = rw (loaded_refused (read_rule rule) r e); within = tt }

-- the text on a rule that loading accepts
found_lines : (bytes : ℕ) (read : Reading) (loaded : Loaded) → Ok loaded ≡ loaded_of read → (found : Result Found Refusal) (witness : List ℕ)
    → standing_text bytes read found witness ≡ found_text bytes loaded.items loaded.horizon found witness
found_lines bytes read loaded e found witness =
    let (is, f, reads, many, far) = loaded_accepted read loaded e in go is f reads loaded.items loaded.horizon many far
  where
    go : (is : Items) (f : Formula) → read ≡ accepted is f → (n h : ℕ) → n ≡ length is → h ≡ horizon f
        → standing_text bytes read found witness ≡ found_text bytes n h found witness
    go is f reads n h many far = rw (reads, many, far)

-- Loading accepts it, and it is searched
module _ (rule table witness : List ℕ) (loaded : Loaded) (loads : Ok loaded ≡ loaded_of (read_rule rule)) (table' witness' : List ℕ) where
  -- the search refuses it
  pub told_unsearched : (r : Refusal) → SearchSays (read_rule rule) table witness (Err r) table' witness' → Told rule table witness (Err r) table' witness'
  told_unsearched r says =
      record { found = Err r; says = says; own_text = found_lines (length rule) (read_rule rule) loaded loads (Err r) witness'; within = tt }

  -- it answers
  pub told_found : (found : Found) → SearchSays (read_rule rule) table witness (Ok found) table' witness'
      → Told rule table witness (Ok (record { loaded = loaded; found = found })) table' witness'
  told_found found says =
      let (is, f, reads, many, far) = loaded_accepted (read_rule rule) loaded loads in
      record {
        found = Ok found;
        says = says;
        own_text = found_lines (length rule) (read_rule rule) loaded loads (Ok found) witness';
        within = shown rule table witness (Ok found) table' witness' says is f reads found refl;
      }

module _ {rule table witness : List ℕ} {told : Result Standing Refusal} {table' witness' : List ℕ} (t : Told rule table witness told table' witness')
    (text : List ℕ) (small : AllBytes rule) (large : most_text ≤ length text) where
  -- There is room for the text
  pub room : Room text 0 (told_text (length rule) told witness')
  room = omega (arith, large, rw t.own_text at (text_fits rule table witness t.found table' witness' t.says small))

  -- once it is written it stands there
  pub stands : {after text' : List ℕ} {end : ℕ} → Puts text 0 (told_text (length rule) told witness') after end → text' ≡ after
      → Prints rule table witness text end table' witness' text'
  stands (after, place) same =
      let (stand, last) = written_fitting text 0 (told_text (length rule) told witness') room in
      record {
        found = t.found;
        says = t.says;
        own_text = rw (t.own_text, same, after, stand, zero-add);
        own_length = rw (t.own_text, place, last, zero-add);
      }
