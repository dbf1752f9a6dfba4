-- What the search says of a rule, in numbers: an accepted rule is short, what is said of it is small, and a rule that is refused is refused at a place near its
-- start. So the text has a bound.
use mathlib.Core.Path.{◌≡◌, refl}
use mathlib.Core.Bool.{true}
use mathlib.Core.List.{List}
use mathlib.Core.Logic.{◌⊎◌, inl, inr, ⊎_elim, by_cases}
use Prim.Native.Nat.{ℕ, ◌+◌, ◌*◌, ◌≤◌, ◌<◌}
use native.Mathlib.Decide.{dec_le}
use native.Mathlib.Omega.{arith}
use borrow.Author.Tests.{lt-ltb}
use lib.ListN.{length, take, length-append, length-take}
use Rattle.std.proofs.Common.{Option, Some, None, IfSome, Result, Ok, Err}
use Rattle.ground.specs.Buffers.{AllBytes}
use Rattle.ground.specs.Limits.{most_horizon}
use Rattle.ground.specs.declared.refusal.Refusal.{Refusal}
use Rattle.rules.specs.Accepted.{IsRule}
use Rattle.rules.specs.Formula.{Formula, horizon}
use Rattle.rules.specs.Loading.{Items, Reading, accepted, refused, read_rule}
use Rattle.rules.proofs.Accepted.{accepted_rule}
use Rattle.rules.proofs.Places.{rule_place}
use Rattle.finder.specs.Demand.{Demanded}
use Rattle.finder.specs.Search.{short_witness, SearchSays}
use Rattle.finder.specs.declared.search.Found.{Found}
use Rattle.finder.proofs.Demand.{demand_two}
use Rattle.finder.proofs.Small.{Small, said_small}
use Rattle.standing.specs.Inner.Within.{ClipWithin}
use Rattle.standing.specs.Standing.{most_text, clip_text, standing_text}
use Rattle.standing.specs.Text.{head_text}
use Rattle.standing.proofs.Lengths.{head_length, met_length, none_length, refused_length}

-- the lines on an accepted rule
head_short : (rule : List ℕ) (is : Items) (f : Formula) → IsRule rule is f → length (head_text (length rule) (length is) (horizon f)) ≤ 43
head_short rule is f own =
    head_length (length rule) (length is) (horizon f) (omega (arith, own.short)) (omega (arith, own.items)) (omega (arith, own.near))

-- the lines on a clip, or that there is none
clip_short : (shown : Option ℕ) (states : ℕ) (witness : List ℕ) → IfSome shown (λ l. l ≤ most_horizon + 1) → states < 100000
    → length (clip_text shown states witness) ≤ 3 * (most_horizon + 1) + 31
clip_short (Some l) states witness short few =
    let shown = length-take l witness in
    omega (arith, shown, met_length states (take l witness) few (omega (arith, shown)))
clip_short None states witness short few = omega (arith, none_length states few)

module _ (rule table witness : List ℕ) (found : Result Found Refusal) (table' witness' : List ℕ)
    (says : SearchSays (read_rule rule) table witness found table' witness') where
  -- of an accepted rule it says 14, or what the second demand has
  said : (is : Items) (f : Formula) → read_rule rule ≡ accepted is f
      → (found ≡ Err Refusal.ShortWitness) ⊎ Demanded f table witness found table' witness'
  said is f reads =
      by_cases (dec_le (horizon f + 1) (length witness))
      (λ long. inr (demand_two rule table witness is f reads long found table' witness' says)) λ short.
      let l : short_witness f witness ≡ true = lt-ltb (length witness) (horizon f + 1) (omega arith) in
      inl (rw (reads, l) at says).own_answer

  -- The clip that is shown has a frame or more, and lies within the witness buffer
  pub shown : (is : Items) (f : Formula) → read_rule rule ≡ accepted is f → (x : Found) → found ≡ Ok x → ClipWithin x witness'
  shown is f reads x e = go x.length refl
    where
      go : (length : Option ℕ) → x.length ≡ length → IfSome length (λ l. (1 ≤ l) × (l ≤ lib.ListN.length witness'))
      go (Some l) met =
          ⊎_elim (λ refused. absurd (let z : ◌≡◌ {A = ℕ} 0 1 = cc in omega arith))
          (λ d. let s = (rw (e, met) at d).shown refl in omega (arith, s.first.satisfying.some, s.long, length-take l witness'))
          (said is f reads)
      go None e = tt

  -- The text on any rule
  pub text_fits : AllBytes rule → length (standing_text (length rule) (read_rule rule) found witness') ≤ most_text
  text_fits small = go (read_rule rule) refl found (said_small rule table witness found table' witness' small says)
    where
      go : (read : Reading) → read_rule rule ≡ read → (answer : Result Found Refusal) → Small answer
          → length (standing_text (length rule) read answer witness') ≤ most_text
      go (accepted is f) reads (Ok found) (short, some, few) =
          let head = head_short rule is f (accepted_rule rule is f small reads) in
          rw length-append (omega (arith, head, clip_short found.length found.states witness' short (omega arith)))
      go (accepted is f) reads (Err r) near = omega (arith, refused_length r (omega arith))
      go (refused r) reads answer near = omega (arith, refused_length r (omega (arith, rule_place rule r small reads)))
