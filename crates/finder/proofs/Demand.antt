-- Demand 2. What `search` says of an accepted rule is a right answer in the paper's meaning, and of the three kinds of answer only one is right: so "no room"
-- and "none" come exactly where the demand has them. The first clip that satisfies has at most horizon + 1 frames, so it stands within the witness buffer.
use mathlib.Core.Path.{◌≡◌, refl, ap}
use mathlib.Core.List.{List}
use Prim.Native.Nat.{ℕ, ◌+◌, ◌≤◌}
use native.Mathlib.Omega.{arith}
use lib.ListN.{length, take, replicate}
use lib.Seq.{take_at, drop_at}
use Rattle.std.proofs.Common.{Result}
use Rattle.ground.specs.declared.refusal.Refusal.{Refusal}
use Rattle.ground.specs.Buffers.{over}
use Rattle.ground.proofs.Buffers.{over_length}
use Rattle.rules.specs.Formula.{Formula, horizon}
use Rattle.rules.specs.Loading.{read_rule}
use Rattle.rules.specs.Meaning.{Holds}
use Rattle.sequencer.specs.After.{steps_over}
use Rattle.emitter.specs.Translation.{code_for}
use Rattle.paths.specs.Answers.{Answer, met, none, no_room, Right}
use Rattle.paths.proofs.Counting.{not_within}
use Rattle.finder.specs.Demand.{Demanded, DemandTwo}
use Rattle.table.specs.Room.{room_of}
use Rattle.finder.specs.Search.{found_of, witness_after, SearchSays}
use Rattle.finder.specs.declared.search.Found.{Found}
use Rattle.finder.proofs.Answered.{first_short, answers_said}
use Rattle.finder.proofs.search.search.Reads as search

-- The contract is what the function ensures
pub search_says : (κs : _) (a : _) (r : _) (x : _) → search.Post κs a r x
    → SearchSays (read_rule a.0.now) a.1.0.now a.1.1.0.now r x.1.0.now x.1.1.0.now
search_says κs a r x p = p

module _ (f : Formula) (table witness : List ℕ) (room : horizon f + 1 ≤ length witness) where
  demanded : (answer : Answer) → Right (steps_over (code_for f)) (Holds f) (room_of table) answer
      → Demanded f table witness (found_of answer) (replicate (length table) 0) (witness_after answer witness)
  demanded (met c n) (first, count, within) =
      let own : take (length c) (over c witness) ≡ c = take_at c _ (length c) refl in
      record {
        refuses = λ refusal e. cc e;
        no_room = (λ e. cc e, λ more. absurd (not_within _ _ n _ count within more));
        none = λ _. (λ e. cc e, λ never. absurd (never c first.satisfying));
        states = λ _. count;
        shown = λ _. record {
          first = rw own first;
          long = ap length own;
          rest = drop_at c _ (length c) refl;
          same = over_length c witness (omega (arith, first_short f c first));
        };
        not_shown = λ e. cc e;
        zero = refl;
      }
  demanded (none n) (never, count, within) =
      record {
        refuses = λ refusal e. cc e;
        no_room = (λ e. cc e, λ more. absurd (not_within _ _ n _ count within more));
        none = λ _. (λ _. never, λ _. refl);
        states = λ _. count;
        shown = λ e. cc e;
        not_shown = λ _. (refl, refl);
        zero = refl;
      }
  demanded no_room more =
      record {
        refuses = λ refusal e. cc;
        no_room = (λ _. more, λ _. refl);
        none = λ other. absurd (other refl);
        states = λ other. absurd (other refl);
        shown = λ e. cc e;
        not_shown = λ _. (refl, refl);
        zero = refl;
      }

  demanded_of : (answer : Answer) → Right (steps_over (code_for f)) (Holds f) (room_of table) answer → (r : Result Found Refusal) (table' witness' : List ℕ)
      → r ≡ found_of answer → table' ≡ replicate (length table) 0 → witness' ≡ witness_after answer witness → Demanded f table witness r table' witness'
  demanded_of answer right r table' witness' e zero left = rw (e, zero, left) (demanded answer right)

pub demand_two : DemandTwo
demand_two rule table witness is f reads room r table' witness' says =
    let a = answers_said rule table witness is f reads room r table' witness' says in
    demanded_of f table witness room a.answer a.right r table' witness' a.own_answer a.own_table a.own_witness
