-- `explore` meets its contract. Before each length the search stands where `Tries` says, with a table as long as before. The measure is the records that are
-- not behind it yet.
use mathlib.Core.Path.{◌≡◌, refl, ◌∙◌}
use Prim.Native.Nat.{◌≤◌}
use native.Mathlib.Omega.{arith}
use Rattle.std.proofs.Common.{Some, None}
use Rattle.std.proofs.lemmas.Bool.Decides.{nat_tests}
use Rattle.std.proofs.lemmas.Result.{err_from_is_err_and}
use Rattle.paths.proofs.Ends.{no_record}
use Rattle.table.specs.Inner.Records.{room_in}
use Rattle.finder.specs.Inner.Explore.{Exploring}
use Rattle.finder.proofs.Naming.{passes_over}
use Rattle.finder.proofs.Turns.{to_begin, to_next_length, to_none, to_no_room}
use Rattle.finder.proofs.explore.explore.Goals as goal
use Rattle.finder.proofs.explore.explore.Goals.{Else-is_some}

-- no trial of a length satisfies: all of them are made
tried_all : (c : Else-is_some)
    → Exploring c.args.code.now c.try_length-met.new.table c.loop-passed.ended 0 c.loop-passed.ended c.try_length-met.new.stored
tried_all c = let none : c.try_length-met.result ≡ None = grind arith in rw none at c.try_length-met.ensures

pub returns-then-is_empty : goal.returns-then-is_empty
returns-then-is_empty c = (refl, no_record _ _ _ (grind (arith, nat_tests)))

pub loop-passed-init : goal.loop-passed-init
loop-passed-init c =
    let some : 1 ≤ room_in c.args.table.now = let whole = c.requires.holds.whole in grind (arith, nat_tests) in (
      record {
        sound = c.requires.sound;
        passes = passes_over _ _ _ c.named_flags.ensures c.passed_over-passed.ensures;
        exploring = to_begin _ _ _ c.requires.holds c.requires.indexed (some) _ c.fresh.ensures c.store.ensures;
      },
      refl,
    )

pub returns-in_err-count : goal.returns-in_err-count
returns-in_err-count c =
    let none : c.try_length-met.new.stored ≡ None = grind arith in
    let p = err_from_is_err_and c.from_residual.result c.from_residual.ensures.1 in
    let all = rw none at (tried_all (goal.at.returns-in_err-count c).Else-is_some) in
    rw (p.1, p.2) (grind arith, to_no_room refl all c.requires.sound.good)

pub returns-then-count-ended : goal.returns-then-count-ended
returns-then-count-ended c =
    let some : c.try_length-met.new.stored ≡ Some c.in_ok-count.count = grind arith in
    let all = rw some at (tried_all (goal.at.returns-then-count-ended c).Else-is_some) in
    to_none refl _ all c.requires.sound.good c.if-count-ended.true

pub loop-passed-preserved : goal.loop-passed-preserved
loop-passed-preserved c =
    let some : c.try_length-met.new.stored ≡ Some c.in_ok-count.count = grind arith in
    let all = rw some at (tried_all (goal.at.loop-passed-preserved c).Else-is_some) in
    let tries = c.loop-passed.invariant.0 in (
      record { sound = tries.sound; passes = tries.passes; exploring = rw some (to_next_length refl _ all) },
      c.try_length-met.auto.table ∙ c.loop-passed.invariant.1,
    )
