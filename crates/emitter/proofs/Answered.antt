-- `emit` past its calls. The code of the items of a rule that is loaded is its formula's, and its bytes are short; so what writing it answers and leaves is
-- what the definition says.
use mathlib.Core.Path.{◌≡◌, refl, ap, ◌∙◌}
use mathlib.Core.Bool.{Bool, cond}
use mathlib.Core.List.{List}
use Prim.Native.Nat.{ℕ, ◌≤◌}
use native.Mathlib.Omega.{arith}
use lib.ListN.{length}
use Rattle.std.proofs.Common.{Result, Ok, Err}
use Rattle.ground.specs.Buffers.{AllBytes}
use Rattle.ground.specs.Limits.{most_code_bytes}
use Rattle.ground.specs.declared.refusal.Refusal.{Refusal}
use Rattle.ground.proofs.Buffers.{long_enough}
use Rattle.rules.specs.Formula.{Formula}
use Rattle.rules.specs.Loaded.{items_in}
use Rattle.rules.specs.Loading.{Items, accepted, read_rule, rule_of}
use Rattle.rules.specs.declared.load.Rule.{Rule}
use Rattle.rules.proofs.Accepted.{accepted_rule}
use Rattle.rules.proofs.Loaded.{Accepts, rule_refused}
use Rattle.emitter.specs.Emit.{emitted_of, out_after, EmitSays}
use Rattle.emitter.specs.Inner.Emission.{items_code}
use Rattle.emitter.specs.Inner.Writing.{CanWriteItems, bytes_after, EmitsCode}
use Rattle.emitter.specs.Translation.{code_bytes}
use Rattle.emitter.proofs.Accepted.{code_bytes_lem}
use Rattle.emitter.proofs.Preparing.{items_are, can_translate}

-- The answer to an accepted rule, by whether the buffer is too short

module _ (is : Items) (f : Formula) (out : List ℕ) where
  abbrev answer : Bool → Result ℕ Refusal
  answer short = cond short (Err Refusal.ShortOutput) (Ok (length (code_bytes f)))

  pub has_room : length (code_bytes f) ≤ length out → emitted_of (accepted is f) out ≡ Ok (length (code_bytes f))
  has_room h = ap answer (long_enough out (code_bytes f) h)

-- A rule that was loaded
module _ (bytes : List ℕ) (rule : Rule) (a : Accepts bytes rule) (is : Items) (own : is ≡ items_in rule rule.count) where
  pub can_write : CanWriteItems is
  can_write = record {
    translates = can_translate bytes rule a is own;
    short = rw (items_are bytes rule a is own) (code_bytes_lem bytes a.items a.formula a.is_rule);
  }

  pub says_emitted : (out : List ℕ) (answer : Result ℕ Refusal) (left : List ℕ) → EmitsCode (items_code is) out answer left → EmitSays bytes out answer left
  says_emitted out answer left (answered, leaves) =
      let code = items_are bytes rule a is own in
      (rw code at answered ∙ rw a.read, rw code at leaves ∙ rw a.read (both answer))
    where
      both : (answer : Result ℕ Refusal) → bytes_after answer (code_bytes a.formula) out ≡ out_after answer (accepted a.items a.formula) out
      both (Ok n) = refl
      both (Err r) = refl

-- a rule that is refused
pub says_refused : (bytes out : List ℕ) (r : Refusal) → Err r ≡ rule_of (read_rule bytes) → EmitSays bytes out (Err r) out
says_refused bytes out r e = let read = rule_refused (read_rule bytes) r e in (rw read, refl)

-- A buffer as long as the bound always suffices
pub always_suffices : (bytes out : List ℕ) (is : Items) (f : Formula) → AllBytes bytes → read_rule bytes ≡ accepted is f → most_code_bytes ≤ length out
    → emitted_of (read_rule bytes) out ≡ Ok (length (code_bytes f))
always_suffices bytes out is f small read room =
    let short = code_bytes_lem bytes is f (accepted_rule bytes is f small read) in
    rw read (has_room is f out (omega arith))
