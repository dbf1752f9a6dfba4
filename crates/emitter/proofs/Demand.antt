-- Demand 3. The emitter's answer and its buffer are the code of the rule's formula; that code is read back, and its output is the formula's computed meaning,
-- which agrees with the paper's. So the byte that a run writes for a frame says whether the clip from it satisfies the rule. No one code can do that for two
-- rules of which one always holds and one never.
use mathlib.Core.Path.{◌≡◌, refl, ap, ◌∙◌}
use mathlib.Core.Bool.{Bool, true, false}
use mathlib.Core.List.{List, [], ◌∷◌}
use Prim.Native.Nat.{ℕ, zero, suc, ◌≤◌, ◌<◌}
use native.Mathlib.Omega.{arith}
use borrow.Author.Tests.{le-ltb, ne_eqb}
use lib.ListN.{length, get_or, take, drop, length-append, length-drop, get_or-append}
use lib.Seq.{take_at, drop_at}
use Rattle.std.proofs.Common.{Ok}
use Rattle.ground.specs.Buffers.{AllBytes, byte_of, byte_values}
use Rattle.ground.specs.Frames.{Clip}
use Rattle.reading.specs.InTurn.{items, in_turn, read_all}
use Rattle.reading.specs.Items.{item_at, numbers_from, look, rule_codes}
use Rattle.ground.specs.Limits.{limits}
use Rattle.ground.proofs.Buffers.{long_enough}
use Rattle.ground.proofs.Choices.{bool_false}
use Rattle.rules.specs.Formula.{Formula}
use Rattle.rules.specs.Items.{item_of, apply}
use Rattle.rules.specs.Loading.{Items, accepted, stack_from, timed_in, lower_in, rule_counts, rule_counted, bad_window, rule_too_large, check_item, read_rule}
use Rattle.rules.specs.Meaning.{Holds, holds}
use Rattle.rules.proofs.Accepted.{accepted_rule}
use Rattle.rules.proofs.Agreement.{agreement}
use Rattle.sequencer.proofs.Running.{verdict_at, verdicts_length}
use Rattle.sequencer.specs.Bits.{output}
use Rattle.code.specs.Code.{Code}
use Rattle.code.specs.Loading.{read_code, code_of}
use Rattle.sequencer.specs.Running.{verdicts, bad_clip, ran_of, buffer_after}
use Rattle.emitter.specs.Demand.{RunSays, Verdicts, Meets, DemandThree}
use Rattle.emitter.specs.Emit.{EmitSays}
use Rattle.emitter.specs.Translation.{code_for, code_bytes}
use Rattle.emitter.proofs.Accepted.{code_accepted}
use Rattle.emitter.proofs.Answered.{has_room}
use Rattle.emitter.proofs.Wires.{output_holds}
use Rattle.emitter.proofs.emit.emit.Reads as emit
use Rattle.sequencer.proofs.run.run.Reads as run

-- The contracts are what the two functions ensure

pub emit_says : (κs : _) (a : _) (r : _) (x : _) → emit.Post κs a r x → EmitSays a.0.now a.1.0.now r x.1.0.now
emit_says κs a r x p = p

pub run_says : (κs : _) (a : _) (r : _) (x : _) → run.Post κs a r x → RunSays a.0.now a.1.0.now a.1.1.0.now r x.1.1.0.now
run_says κs a r x p = p

module _ (f : Formula) (code : Code) (says : output code ≡ holds f) (clip before : List ℕ) (room : length clip ≤ length before) where
  -- the byte of a frame is what the rule says of the clip from it
  says_at : (i : ℕ) (b : Bool) → i < length clip → holds f (drop i clip) ≡ b → get_or (buffer_after (Ok tt) code clip before) i 0 ≡ byte_of b
  says_at i b h e =
      get_or-append (verdicts code clip) _ 0 i (omega (arith, verdicts_length code clip))
      ∙ verdict_at code clip i h
      ∙ ap (λ (w : Clip → Bool). byte_of (w (drop i clip))) says
      ∙ ap byte_of e

  all_verdicts : Verdicts f clip before (buffer_after (Ok tt) code clip before)
  all_verdicts =
      let l = verdicts_length code clip in
      record {
        satisfied = λ i h p. says_at i true h ((agreement f (drop i clip)).1 p);
        broken = λ i h n. says_at i false h (bool_false _ (λ e. n ((agreement f (drop i clip)).0 e)));
        rest = drop_at (verdicts code clip) _ (length clip) l ∙ ap (λ n. drop n before) l;
        same = length-append (verdicts code clip) _ ∙ omega (arith, length-drop (length (verdicts code clip)) before);
      }

-- code whose bytes are read, and whose output is the meaning, meets the demand
read_meets : (f : Formula) (code : Code) (bytes : List ℕ) → read_code bytes ≡ items code → output code ≡ holds f → Meets f bytes
unfolding bad_clip
read_meets f code bytes read says =
    record {
      loads = (length code, rw read);
      runs = λ clip before some most room answer after p.
          let runs : ran_of (read_code bytes) clip before ≡ Ok tt =
          rw (read, ne_eqb (length clip) 0 (omega arith), le-ltb limits.frames (length clip) most, long_enough before clip room) in
          let done : answer ≡ Ok tt = p.0 ∙ runs in
          (done, rw (rw (done, read) at p.1) (all_verdicts f code says clip before room));
    }

-- The demand
pub demand_three : DemandThree
demand_three rule before is f small read room answer after p =
    let r = accepted_rule rule is f small read in
    let answered : answer ≡ Ok (length (code_bytes f)) =
    p.0 ∙ rw read (has_room is f before room) in
    let own : take (length (code_bytes f)) after ≡ code_bytes f =
    ap (take (length (code_bytes f))) (rw (answered, read) at p.1) ∙ take_at (code_bytes f) _ (length (code_bytes f)) refl in
    let says = output_holds f (rw r.own_items at r.ranges) in
    (length (code_bytes f), answered, rw own (read_meets f (code_for f) (code_bytes f) (code_accepted rule is f r) says))

-- what a run of such code leaves for the clip of one frame 0
one_frame : (f : Formula) (code : List ℕ) → Meets f code → let clip : Clip = 0 ∷ [] in let read = read_code code in
    Verdicts f clip clip (buffer_after (ran_of read clip clip) (code_of read) clip clip)
one_frame f code m = (m.runs (0 ∷ []) (0 ∷ []) (omega arith) (omega arith) (omega arith) _ _ (refl, refl)).1

one_byte : (b : ℕ) → b < byte_values → AllBytes (b ∷ [])
one_byte b h zero = h
one_byte b h (suc i) = omega arith

-- No one code meets the demand for every accepted rule: of `10`, true, and `11`, false, one byte would be both 1 and 0
pub no_fixed_code : (code : List ℕ) → ((rule : List ℕ) (is : Items) (f : Formula) → AllBytes rule → read_rule rule ≡ accepted is f → Meets f code) → ⊥
unfolding read_rule read_all in_turn item_at numbers_from look rule_codes item_of apply stack_from timed_in lower_in rule_counts rule_counted bad_window
    rule_too_large
    check_item Holds
no_fixed_code code meets =
    let yes = one_frame Formula.True code (meets (0x10 ∷ []) _ Formula.True (one_byte 0x10 (omega arith)) refl) in
    let no = one_frame Formula.False code (meets (0x11 ∷ []) _ Formula.False (one_byte 0x11 (omega arith)) refl) in
    omega (arith, yes.satisfied 0 (omega arith) tt, no.broken 0 (omega arith) (λ p. p))
