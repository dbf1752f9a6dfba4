-- Document 01's marked samples, proved together. The model of the search, run with the registers and the output of a rule's code, computes each answer with
-- room for just the states that it counts. The answer is right by that code's output, and so by the rule's meaning; it stays right with more room; and no other
-- one is right.
use mathlib.Core.Path.{◌≡◌, refl, sym, ap, ◌∙◌}
use mathlib.Core.Bool.{Bool, true, false, beq, ◌&&◌, false≢true}
use mathlib.Core.List.{List, [], ◌∷◌}
use mathlib.Core.Logic.{◌↔◌}
use Prim.Native.Nat.{ℕ, zero, suc, ◌≤◌}
use native.Mathlib.Omega.{arith}
use borrow.Author.Tests.{ltb-true}
use lib.Dec.{eqb, ltb}
use lib.ListN.{length, drop}
use Rattle.std.proofs.Common.{Decides}
use Rattle.std.proofs.lemmas.Bool.{and_parts, and_from}
use Rattle.std.proofs.lemmas.Bool.Decides.{Decides-eqb}
use Rattle.std.proofs.lemmas.Slice.Eq.{slice_eq-Decides}
use Rattle.std.specs.Cmp.Lexicographic.{pointwise}
use Rattle.ground.specs.Buffers.{byte_values, AllBytes}
use Rattle.ground.specs.Each.{Each}
use Rattle.ground.proofs.Each.{each_then}
use Rattle.ground.specs.Frames.{Clip, has_flag}
use Rattle.reading.specs.InTurn.{read_all, in_turn}
use Rattle.reading.specs.Items.{item_at, numbers_from, look, rule_codes}
use Rattle.reading.specs.Numbers.{number_at}
use Rattle.rules.specs.Accepted.{IsRule}
use Rattle.rules.specs.Formula.{Formula, horizon}
use Rattle.rules.specs.Items.{item_of, apply}
use Rattle.rules.specs.Loading.{Items, Reading, accepted, refused, stack_from, timed_in, lower_in, rule_counts, rule_counted, bad_window, rule_too_large}
use Rattle.rules.specs.Loading.{check_item, read_rule}
use Rattle.rules.specs.Meaning.{Holds}
use Rattle.rules.proofs.Accepted.{accepted_rule}
use Rattle.sequencer.specs.After.{steps_over}
use Rattle.sequencer.specs.Bits.{output, next}
use Rattle.code.specs.Code.{Code}
use Rattle.sequencer.specs.Registers.{fresh_registers, shifted, execute, executed}
use Rattle.sequencer.specs.Stepping.{advanced_by}
use Rattle.sequencer.specs.declared.registers.Registers.{Registers}
use Rattle.emitter.specs.Samples as emitter
use Rattle.emitter.specs.Translation.{code_for, later_by, timed, item_code, translate}
use Rattle.emitter.proofs.Accepted.{good_code}
use Rattle.emitter.proofs.Samples as emitted
use Rattle.paths.specs.Answers as paths
use Rattle.paths.specs.Answers.{Answer, met, none, no_room}
use Rattle.paths.specs.Inner.Model.{Machine, after, MachineHits, Ended, ended, unfinished, modelled}
use Rattle.paths.proofs.Model.{model_right}
use Rattle.paths.proofs.Unique.{one_answer, right_alike}
use Rattle.finder.specs.Search.{states_of, found_of, witness_after}
use Rattle.samples.specs.Samples.{Sample, searches, refuses, each_frame, emits, FoundRight, samples}
use Rattle.finder.proofs.Turns.{output_step}
use Rattle.finder.proofs.Answered.{hits_holds, answers_said}

-- Two bits are the same if the test says so
Decides-beq : (a b : Bool) → Decides (beq a b) (a ≡ b)
Decides-beq true true = (λ e. refl, λ e. refl)
Decides-beq true false = (sym, λ e. sym e)
Decides-beq false true = (λ e. e, λ e. e)
Decides-beq false false = (λ e. refl, λ e. refl)

-- Whether registers are the same: all counters and all delay bits
abbrev same_registers : Registers → Registers → Bool
same_registers r s = pointwise eqb r.counters s.counters && pointwise beq r.delays s.delays

registers_sound : (r s : Registers) → same_registers r s ≡ true → r ≡ s
registers_sound r s e =
    let (counters, delays) = and_parts (pointwise eqb r.counters s.counters) (pointwise beq r.delays s.delays) e in
    let c = (slice_eq-Decides Decides-eqb r.counters s.counters _ refl).0 counters in
    let d = (slice_eq-Decides Decides-beq r.delays s.delays _ refl).0 delays in
    λ i. record { counters = c i; delays = d i }

registers_finds : (r : Registers) → same_registers r r ≡ true
registers_finds r =
    and_from (pointwise eqb r.counters r.counters) (pointwise beq r.delays r.delays) ((slice_eq-Decides Decides-eqb r.counters r.counters _ refl).1 refl)
    ((slice_eq-Decides Decides-beq r.delays r.delays _ refl).1 refl)

-- The machine that the model runs: the registers of code, and its output
abbrev machine_of : Code → Machine Registers
machine_of code =
    record {
      fresh = fresh_registers;
      step = λ r x. (advanced_by code x r).registers;
      out = λ r x. (advanced_by code x r).bit;
      same = same_registers;
    }

-- A clip reaches the registers after it
after_steps : (code : Code) (c : Clip) → after (machine_of code) c ≡ steps_over code c
unfolding steps_over advanced_by
after_steps code [] = refl
after_steps code (x ∷ c) = ap (λ r. (advanced_by code x r).registers) (after_steps code c)

-- An answer that counts states is right with more room
more_room : {S : Type 0} (state : Clip → S) (Meets : Clip → Type 0) (room : ℕ) (a : Answer) → 1 ≤ states_of (found_of a) → states_of (found_of a) ≤ room
    → paths.Right state Meets (states_of (found_of a)) a → paths.Right state Meets room a
more_room state Meets room (met c n) some h (first, counts, _) = (first, counts, h)
more_room state Meets room (none n) some h (never, counts, _) = (never, counts, h)
more_room state Meets room no_room some h r = absurd (omega arith)

-- Whether all are bytes
abbrev are_bytes : List ℕ → Bool
are_bytes [] = true
are_bytes (x ∷ xs) = ltb x byte_values && are_bytes xs

are_bytes_lem : (xs : List ℕ) → are_bytes xs ≡ true → AllBytes xs
are_bytes_lem [] e i = omega arith
are_bytes_lem (x ∷ xs) e zero = ltb-true x byte_values (and_parts (ltb x byte_values) (are_bytes xs) e).0
are_bytes_lem (x ∷ xs) e (suc i) = are_bytes_lem xs (and_parts (ltb x byte_values) (are_bytes xs) e).1 i

-- An accepted rule
module _ (rule : List ℕ) (is : Items) (f : Formula) (bytes : are_bytes rule ≡ true) (reads : read_rule rule ≡ accepted is f) where
  abbrev machine : Machine Registers
  machine = machine_of (code_for f)

  is_rule : IsRule rule is f
  is_rule = accepted_rule rule is f (are_bytes_lem rule bytes) reads

  -- the output of its code is its meaning
  alike : (x : ℕ) (c : Clip) → MachineHits machine (x ∷ c) ↔ Holds f (x ∷ c)
  unfolding advanced_by
  alike x c =
      let e : machine.out (after machine c) x ≡ output (code_for f) (x ∷ c) =
      ap (λ r. machine.out r x) (after_steps (code_for f) c) ∙ output_step (code_for f) (good_code rule is f is_rule) x c in
      let own = hits_holds f (rw is_rule.own_items at is_rule.ranges) (x ∷ c) in
      (λ h. own.0 (sym e ∙ h), λ h. e ∙ own.1 h)

  -- so an answer of the model is right
  model_answers : (room fuel : ℕ) (a : Answer) → modelled machine room fuel ≡ ended a → paths.Right (steps_over (code_for f)) (Holds f) room a
  model_answers room fuel a e =
      right_alike (after machine) (steps_over (code_for f)) (MachineHits machine) (Holds f) room a (after_steps (code_for f)) alike
      (model_right machine registers_sound registers_finds room fuel a e)

  -- and it is what the search says
  searches_right : (h fuel : ℕ) (a : Answer) → horizon f ≡ h → 1 ≤ states_of (found_of a) → modelled machine (states_of (found_of a)) fuel ≡ ended a
      → FoundRight (searches rule h a)
  searches_right h fuel a near some e = (
    (length is, rw (reads, near)),
    λ table witness room long r table' witness' says.
        let given = answers_said rule table witness is f reads (omega arith) r table' witness' says in
        let one = one_answer _ _ _ given.answer a given.right (more_room _ _ _ a some room (model_answers (states_of (found_of a)) fuel a e)) in
        (given.own_answer ∙ ap found_of one, given.own_table, given.own_witness ∙ ap (λ b. witness_after b witness) one),
  )

-- More moves than any row takes: 257 for each of four states, and one for each length
abbrev moves : ℕ
moves = 2000

-- What is computed for the row of a search, by what is read of the rule: whether it is of bytes and states are counted; the horizon; and the model's answer
abbrev computed : List ℕ → Reading → Answer → Bool × ℕ × Ended
computed rule (accepted is f) a =
    (are_bytes rule && ltb 0 (states_of (found_of a)), horizon f, modelled (machine_of (code_for f)) (states_of (found_of a)) moves)
computed rule (refused r) a = (false, 0, unfinished)

-- What computes for a row
abbrev Computes : Sample → Type 0
Computes (searches rule h a) = computed rule (read_rule rule) a ≡ (true, h, ended a)
Computes (refuses rule refusal) = read_rule rule ≡ refused refusal
Computes (each_frame rule clip verdicts) = FoundRight (each_frame rule clip verdicts)
Computes (emits rule code) = FoundRight (emits rule code)

-- A row that computes is right
right : (s : Sample) → Computes s → FoundRight s
right (searches rule h a) e = of (read_rule rule) refl e
  where
    of : (read : Reading) → read_rule rule ≡ read → computed rule read a ≡ (true, h, ended a) → FoundRight (searches rule h a)
    of (accepted is f) reads e =
        let (bytes, some) = and_parts (are_bytes rule) (ltb 0 (states_of (found_of a))) (ap (λ p. p.0) e) in
        searches_right rule is f bytes reads h moves a (ap (λ p. p.1) e) (ltb-true 0 (states_of (found_of a)) some) (ap (λ p. p.2) e)
    of (refused r) reads e = absurd (false≢true (ap (λ p. p.0) e))
right (refuses rule refusal) e = λ table witness r table' witness' says. let given = rw e at says in (given.own_answer, given.own_table, given.own_witness)
right (each_frame rule clip verdicts) e = e
right (emits rule code) e = e

-- The run and the emitted code are rows of the emitter's samples
pub samples_right : Each FoundRight samples
unfolding samples emitter.samples read_rule read_all in_turn item_at numbers_from look rule_codes number_at check_item bad_window rule_too_large rule_counts
    rule_counted
    timed_in lower_in stack_from apply item_of horizon later_by timed item_code translate advanced_by executed execute shifted next has_flag
samples_right =
    let rest : Each Computes (drop 15 samples) = ((emitted.samples_right).1.1.0, ((emitted.samples_right).0, (refl, tt))) in
    each_then Computes FoundRight right samples
    (refl, (refl, (refl, (refl, (refl, (refl, (refl, (refl, (refl, (refl, (refl, (refl, (refl, (refl, (refl, rest)))))))))))))))
