-- The search, for C. A clip that is shown is no longer than the horizon + 1 and states are no more than the records, so every answer fits into the word, and
-- the accessors read it back. An answer that leaves a buffer changed is no refusal, or it is 15 and the table is zero.
use mathlib.Core.Path.{◌≡◌}
use mathlib.Core.Bool.{Bool, true, false}
use mathlib.Core.List.{List}
use mathlib.Core.Logic.{◌⊎◌, inl, inr}
use Prim.Native.Nat.{ℕ, ◌+◌, ◌*◌, ◌/◌, ◌≤◌, ◌<◌}
use native.Mathlib.Omega.{arith}
use borrow.Author.Tests.{le-ltb}
use lib.ListN.{length, replicate}
use Rattle.std.proofs.Common.{Option, Some, None, IfSome, Result, Ok, Err}
use Rattle.ground.specs.Buffers.{AllBytes}
use Rattle.ground.specs.Limits.{most_horizon}
use Rattle.ground.specs.Refusals.{number_of}
use Rattle.ground.specs.declared.refusal.Refusal.{Refusal}
use Rattle.rules.specs.Formula.{Formula}
use Rattle.rules.specs.Loading.{Reading, accepted, refused, read_rule}
use Rattle.paths.specs.Answers.{Answer, met, none, no_room}
use Rattle.finder.specs.Search.{found_of, witness_after, short_witness, RuleSays, SearchSays}
use Rattle.finder.specs.declared.search.Found.{Found}
use Rattle.finder.proofs.Small.{Small, said_small}
use Rattle.thistlecart.specs.Accessors.{refusal_told, states_told, IsRefused}
use Rattle.thistlecart.specs.Inner.Search.{FoundFits}
use Rattle.thistlecart.specs.Search.{answer_word, found_word, TellsLength, TellsFound, SearchDemand}
use Rattle.thistlecart.specs.Words.{bit8, bit16, bit24, bit32}
use Rattle.thistlecart.proofs.Accessors.{refusal_told_lem, calm}

-- a length that is shown
length_fits : (shown : Option ℕ) → IfSome shown (λ l. l ≤ most_horizon + 1) → IfSome shown (λ l. l < bit16)
length_fits (Some l) short = omega arith
length_fits None short = tt

-- What the search answers fits
pub found_fits : (rule table witness : List ℕ) (r : Result Found Refusal) (table' witness' : List ℕ) → AllBytes rule
    → SearchSays (read_rule rule) table witness r table' witness' → FoundFits r
found_fits rule table witness r table' witness' small says = go r (said_small rule table witness r table' witness' small says)
  where
    go : (found : Result Found Refusal) → Small found → FoundFits found
    go (Ok found) (short, some, few) = (length_fits found.length short, some, omega arith)
    go (Err x) near = omega arith

-- Its word tells it
told_at : (shown : Option ℕ) (states : ℕ) → IfSome shown (λ l. l < bit16) → 1 ≤ states → states < bit32
    → (refusal_told (answer_word shown states) ≡ 0) × TellsLength shown (answer_word shown states)
    × (states_told (answer_word shown states) ≡ states)
told_at (Some l) states short some few =
    let word = bit8 + l * bit16 + states * bit32 in
    let low : refusal_told word ≡ 0 = omega arith in
    let above : word / bit8 ≡ 1 + l * bit8 + states * bit24 = omega arith in (
      low,
      (rw (calm _ low, above) (omega arith), rw (calm _ low, le-ltb word bit32 (omega arith)) (omega arith)),
      rw (calm _ low) (omega arith),
    )
told_at None states short some few =
    let word = states * bit32 in
    let low : refusal_told word ≡ 0 = omega arith in
    let above : word / bit8 ≡ states * bit24 = omega arith in (
      low,
      (rw (calm _ low, above) (omega arith), rw (calm _ low, le-ltb word bit32 (omega arith)) (omega arith)),
      rw (calm _ low) (omega arith),
    )

pub found_told : (a : Result Found Refusal) → FoundFits a → TellsFound a (found_word a)
found_told (Ok found) (short, some, few) = told_at found.length found.states short some few
found_told (Err r) fits = refusal_told_lem r fits

-- a refused search leaves the witness buffer as it was, and the table, unless it is 15
abbrev Stays : List ℕ → List ℕ → ℕ → List ℕ → List ℕ → Type 0
Stays table witness word table' witness' =
    (witness' ≡ witness) × ((table' ≡ table) ⊎ ((refusal_told word ≡ number_of Refusal.NoRoom) × (table' ≡ replicate (length table) 0)))

module _ (table witness : List ℕ) (found : Result Found Refusal) (word : ℕ) (table' witness' : List ℕ) (told : TellsFound found word)
    (no_answer : IsRefused word) where
  answer_stays : (a : Answer) → found ≡ found_of a → witness' ≡ witness_after a witness → table' ≡ replicate (length table) 0
      → Stays table witness word table' witness'
  answer_stays (met c n) own left clear = absurd (no_answer (rw own at told).0)
  answer_stays (none n) own left clear = absurd (no_answer (rw own at told).0)
  answer_stays no_room own left clear = (left, inr ((rw own at told).0, clear))

  rule_stays : (short : Bool) (f : Formula) → RuleSays short f table witness found table' witness' → Stays table witness word table' witness'
  rule_stays true f s = (s.own_witness, inl s.own_table)
  rule_stays false f s = answer_stays s.answer s.own_answer s.own_witness s.own_table

  search_stays : (read : Reading) → SearchSays read table witness found table' witness' → Stays table witness word table' witness'
  search_stays (accepted is f) s = rule_stays (short_witness f witness) f s
  search_stays (refused r) s = (s.own_witness, inl s.own_table)

-- Its part of the first demand
pub search_demand : SearchDemand
search_demand rule table witness small word table' witness' says =
    let found = says.found in
    let fits = found_fits rule table witness found table' witness' small says.says in
    let told : TellsFound found word = rw says.own_word (found_told found fits) in
    let stays : IsRefused word → Stays table witness word table' witness' =
    λ no_answer. search_stays table witness found word table' witness' told no_answer (read_rule rule) says.says in
    record {
      found = found;
      says = says.says;
      tells = told;
      keeps_witness = λ no_answer. (stays no_answer).0;
      keeps_table = λ no_answer. (stays no_answer).1;
    }
