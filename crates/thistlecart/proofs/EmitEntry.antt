-- Emitting, for C. An accepted rule's code is short, so every answer fits into the word, and the accessors read it back; an answer that leaves the buffer
-- changed is no refusal.
use mathlib.Core.Path.{◌≡◌, refl, ◌∙◌}
use mathlib.Core.List.{List}
use Prim.Native.Nat.{ℕ}
use native.Mathlib.Omega.{arith}
use Rattle.ground.specs.Buffers.{AllBytes, too_short}
use Rattle.ground.specs.declared.refusal.Refusal.{Refusal}
use Rattle.ground.proofs.Choices.{both_ways}
use Rattle.rules.specs.Loading.{Reading, accepted, refused, read_rule}
use Rattle.rules.proofs.Accepted.{accepted_rule}
use Rattle.rules.proofs.Places.{rule_place}
use Rattle.emitter.specs.Emit.{emitted_of, out_after}
use Rattle.emitter.specs.Translation.{code_bytes}
use Rattle.std.proofs.Common.{Result, Ok, Err}
use Rattle.emitter.proofs.Accepted.{code_bytes_lem}
use Rattle.thistlecart.specs.Accessors.{IsRefused}
use Rattle.thistlecart.specs.Emit.{emitted_word, TellsEmitted, EmitDemand}
use Rattle.thistlecart.specs.Inner.Emit.{EmittedFits}
use Rattle.thistlecart.proofs.Accessors.{refusal_told_lem, length_told_lem}

-- What emitting answers fits
pub emitted_fits : (rule out : List ℕ) → AllBytes rule → EmittedFits (emitted_of (read_rule rule) out)
emitted_fits rule out small = go (read_rule rule) refl
  where
    go : (read : Reading) → read_rule rule ≡ read → EmittedFits (emitted_of read out)
    go (accepted is f) e =
        both_ways EmittedFits (too_short out (code_bytes f)) {x = Err Refusal.ShortOutput} (omega arith)
        (omega (arith, code_bytes_lem rule is f (accepted_rule rule is f small e)))
    go (refused r) e = omega (arith, rule_place rule r small e)

-- Its word tells it
pub emitted_told : (a : Result ℕ Refusal) → EmittedFits a → TellsEmitted a (emitted_word a)
emitted_told (Ok length) fits = length_told_lem length fits
emitted_told (Err r) fits = refusal_told_lem r fits

-- a refusal leaves the buffer as it was
emit_stays : (a : Result ℕ Refusal) (word : ℕ) (read : Reading) (out : List ℕ) → TellsEmitted a word → IsRefused word → out_after a read out ≡ out
emit_stays (Ok n) word read out told no_answer = absurd (no_answer told.0)
emit_stays (Err r) word read out told no_answer = refl

-- Its part of the first demand
pub emit_demand : EmitDemand
emit_demand rule out small word out' says =
    let answer = emitted_of (read_rule rule) out in
    let told : TellsEmitted answer word = rw says.own_word (emitted_told answer (emitted_fits rule out small)) in
    record { tells = told; keeps = λ no_answer. says.own_out ∙ emit_stays answer word (read_rule rule) out told no_answer }
