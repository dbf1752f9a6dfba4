-- `try_length` meets its contract. Before each state the trials of the length stand where `Tries` says, and before each frame byte where `CanTry` says; no
-- trial has satisfied.
use mathlib.Core.Path.{refl}
use native.Mathlib.Omega.{arith}
use Rattle.std.proofs.lemmas.Bool.{MatchBool-at_false}
use Rattle.paths.specs.Inner.Searching.{frame_bytes}
use Rattle.finder.specs.Inner.Explore.{CanTry}
use Rattle.table.proofs.Records.{kept_by}
use Rattle.finder.proofs.Trials.{byte_passed, byte_tried, state_tried}
use Rattle.finder.proofs.explore.try_length.Goals as goal
use Rattle.finder.proofs.explore.try_length.Goals.{else-loop-frame-test, then-loop-frame-test+then-passed-from+else-frame-lt255}
use Rattle.finder.proofs.explore.try_length.Goals.{then-loop-frame-test+else-passed-from+else-try_byte+else-frame-lt255-2}

pub loop-frame-init : goal.loop-frame-init
loop-frame-init c =
    let (tries, no_hit) = c.all.invariant in (
      record { sound = tries.sound; own = kept_by c.registers_at-registers.ensures; more = omega arith; exploring = tries.exploring },
      no_hit,
      omega arith,
    )

pub loop-frame-preserved-then-passed-from : goal.loop-frame-preserved-then-passed-from
loop-frame-preserved-then-passed-from c =
    let (can, no_hit, inside) = c.loop-frame.invariant in
    (byte_passed _ can inside _ refl _ c.requires.passes (cc (c.from.ensures, c.if-passed-from.true)), no_hit, omega arith)

pub loop-frame-preserved : goal.loop-frame-preserved
loop-frame-preserved c =
    let (can, no_hit, inside) = c.loop-frame.invariant in
    let missed = MatchBool-at_false _ _ c.if-try_byte.false (c.try_byte.ensures _ can) in
    (byte_tried _ can inside _ refl _ _ missed, no_hit, omega arith)

pub all-preserved : goal.all-preserved
all-preserved c =
    let (can, no_hit, inside) = c.loop-frame.invariant in
    let all_bytes : CanTry c.args.code.now c.loop-frame-test.table c.registers_at-registers.result c.all.state frame_bytes c.args.ended
    c.loop-frame-test.stored = elim c.loop-frame-test.branch [
      | else-loop-frame-test w ↦ absurd (omega (arith, w.loop-frame-test.false))
      | then-loop-frame-test+then-passed-from+else-frame-lt255 w ↦
          rw (w.table-is, w.stored-is)
          (byte_passed _ can inside _ (omega arith) _ c.requires.passes (cc (w.from.ensures, w.if-passed-from.true)))
      | then-loop-frame-test+else-passed-from+else-try_byte+else-frame-lt255-2 w ↦
          let missed = MatchBool-at_false _ _ w.if-try_byte.false (w.try_byte.ensures _ can) in
          rw (w.table-is, w.stored-is) (byte_tried _ can inside _ (omega arith) _ _ missed)
    ] in
    (record { sound = can.sound; passes = c.requires.passes; exploring = state_tried _ _ _ _ _ _ _ all_bytes refl }, no_hit)
