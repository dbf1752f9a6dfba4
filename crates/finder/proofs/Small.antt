-- What the search says is small: a clip that is shown is no longer than the greatest horizon + 1, the states that are counted are one at least and no more than
-- the records, and a refusal's place lies inside what an accepted rule may have.
use mathlib.Core.Path.{◌≡◌, refl}
use mathlib.Core.Bool.{Bool, true, false}
use mathlib.Core.List.{List}
use Prim.Native.Nat.{ℕ, ◌+◌, ◌≤◌}
use native.Mathlib.Nat.{min-le_right}
use native.Mathlib.Omega.{arith}
use borrow.Author.Tests.{le-ltb}
use lib.ListN.{length}
use Rattle.std.proofs.Common.{Result, Ok, Err, IfSome}
use Rattle.ground.specs.Buffers.{AllBytes}
use Rattle.ground.specs.Limits.{limits, most_horizon, most_rule_bytes}
use Rattle.ground.specs.Refusals.{place_of}
use Rattle.ground.specs.declared.refusal.Refusal.{Refusal}
use Rattle.rules.specs.Formula.{Formula, horizon}
use Rattle.rules.specs.Loading.{Items, Reading, accepted, refused, read_rule}
use Rattle.rules.specs.Meaning.{Holds}
use Rattle.rules.proofs.Accepted.{accepted_rule}
use Rattle.rules.proofs.Places.{rule_place}
use Rattle.sequencer.specs.After.{steps_over}
use Rattle.emitter.specs.Translation.{code_for}
use Rattle.paths.specs.Answers.{Answer, met, none, no_room, Right}
use Rattle.paths.proofs.Counting.{fresh_counted}
use Rattle.table.specs.Room.{room_of}
use Rattle.finder.specs.Search.{found_of, short_witness, RuleSays, SearchSays}
use Rattle.finder.specs.declared.search.Found.{Found}
use Rattle.finder.proofs.Answered.{first_short}

-- An answer whose numbers are small
abbrev pub Small : Result Found Refusal → Type 0
Small (Ok found) = IfSome found.length (λ l. l ≤ most_horizon + 1) × (1 ≤ found.states) × (found.states ≤ limits.records)
Small (Err r) = place_of r ≤ most_rule_bytes

-- no table has more records
room_small : (table : List ℕ) → room_of table ≤ limits.records
unfolding room_of
room_small table = min-le_right _ _

-- a right answer
right_small : (f : Formula) (table : List ℕ) (a : Answer) → horizon f ≤ most_horizon → Right (steps_over (code_for f)) (Holds f) (room_of table) a
    → Small (found_of a)
right_small f table (met c n) near (first, counts, room) =
    (omega (arith, near, first_short f c first), fresh_counted _ _ n counts, omega (arith, room, room_small table))
right_small f table (none n) near (never, counts, room) = (tt, fresh_counted _ _ n counts, omega (arith, room, room_small table))
right_small f table no_room near more = omega arith

pub said_small : (rule table witness : List ℕ) (r : Result Found Refusal) (table' witness' : List ℕ) → AllBytes rule
    → SearchSays (read_rule rule) table witness r table' witness' → Small r
said_small rule table witness r table' witness' small says = go (read_rule rule) refl says
  where
    accepts : (f : Formula) (short : Bool) → horizon f ≤ most_horizon → RuleSays short f table witness r table' witness' → Small r
    accepts f true near s = rw s.own_answer (omega arith)
    accepts f false near s = rw s.own_answer (right_small f table s.answer near s.right)

    go : (read : Reading) → read_rule rule ≡ read → SearchSays read table witness r table' witness' → Small r
    go (accepted is f) e s = accepts f (short_witness f witness) (accepted_rule rule is f small e).near s
    go (refused x) e s = rw s.own_answer (rule_place rule x small e)

-- A witness buffer as long as the greatest horizon + 1 is long enough for every accepted rule
pub witness_suffices : (rule witness : List ℕ) (is : Items) (f : Formula) → AllBytes rule → read_rule rule ≡ accepted is f → most_horizon + 1 ≤ length witness
    → short_witness f witness ≡ false
witness_suffices rule witness is f small read long = le-ltb (length witness) (horizon f + 1) (omega (arith, long, (accepted_rule rule is f small read).near))
