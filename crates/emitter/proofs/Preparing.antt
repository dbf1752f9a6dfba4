-- `prepare` past its calls. A rule that is loaded is accepted and has the items of one formula, each of which can be added behind those before it within the
-- limits; so the code that its items make in order is the code of that formula, and no test of code refuses it.
use mathlib.Core.Path.{◌≡◌, refl, ap, ◌∙◌}
use mathlib.Core.List.{List, [], ◌∷◌, append-nil}
use Prim.Native.Nat.{ℕ, ◌+◌, ◌*◌, ◌≤◌, ◌<◌}
use native.Mathlib.Omega.{arith}
use lib.ListN.{length, get_or, take, drop, length-take, take-append-drop}
use Rattle.std.proofs.Common.{Ok, Err}
use Rattle.ground.specs.Buffers.{AllBytes}
use Rattle.ground.specs.Limits.{limits}
use Rattle.ground.specs.declared.refusal.Refusal.{Refusal}
use Rattle.ground.proofs.Each.{each_at}
use Rattle.rules.specs.Accepted.{IsRule, InRange}
use Rattle.rules.specs.Formula.{Formula}
use Rattle.rules.specs.Items.{postfix}
use Rattle.rules.specs.Loaded.{items_in, loaded_in}
use Rattle.rules.specs.Loading.{Items, Reading, accepted, refused, rule_kept, read_rule, rule_of, stack_from, stack_of, timed_in}
use Rattle.rules.specs.declared.item.Item.{Item}
use Rattle.rules.specs.declared.load.Loaded.{Loaded}
use Rattle.rules.specs.declared.load.Rule.{Rule}
use Rattle.rules.proofs.Accepted.{accepted_rule, made}
use Rattle.rules.proofs.Loaded.{Accepts, items_back, rule_refused}
use Rattle.rules.proofs.Prefixes.{values_few, operands_there, whole_prefix}
use Rattle.rules.proofs.Stack.{timed_append}
use Rattle.code.specs.Good.{GoodCode}
use Rattle.code.specs.Loading.{program_with}
use Rattle.code.specs.Programs.{Sound, code_held}
use Rattle.code.specs.declared.load.Program.{Program}
use Rattle.code.proofs.Accepted.{code_lent, sound_lent}
use Rattle.emitter.specs.Inner.Emission.{stack_code, Translatable, CanTranslate, items_code}
use Rattle.emitter.specs.Prepare.{prepared_of}
use Rattle.emitter.specs.Translation.{code_for}
use Rattle.emitter.specs.declared.prepare.Prepared.{Prepared}
use Rattle.emitter.proofs.Accepted.{good_code, code_some}
use Rattle.emitter.proofs.Sizes.{stack_length}

-- The code of an accepted rule, for those that go through it: no test refuses it, and it has an instruction at least
pub prepared_code : (bytes : List ℕ) (is : Items) (f : Formula) → AllBytes bytes → read_rule bytes ≡ accepted is f
    → GoodCode (code_for f) × (1 ≤ length (code_for f))
prepared_code bytes is f small read = let r = accepted_rule bytes is f small read in (good_code bytes is f r, code_some bytes is f r)

-- Each of a rule's items can be added

-- a part of the items has no more timed ones than all
timed_part : (k : ℕ) (is : Items) → timed_in (take k is) ≤ timed_in is
timed_part k is = omega (arith, timed_append (take k is) (drop k is), ap timed_in (take-append-drop k is))

translatable : (bytes : List ℕ) (f : Formula) → IsRule bytes (postfix f) f → CanTranslate (postfix f)
translatable bytes f r = record { few = r.items; ready = ready }
  where
    ready : (k : ℕ) → k < length (postfix f) → Translatable (take k (postfix f)) (get_or (postfix f) k Item.True)
    ready k h =
        let is = take k (postfix f) in
        let timed : timed_in is ≤ limits.timed = omega (arith, timed_part k (postfix f), r.timed) in
        let long : length (stack_code (stack_of is)) ≤ 3 * length is + 2 * timed_in is = rw (whole_prefix f k) at (stack_length (stack_of is)) in
        record {
          window = (each_at InRange (postfix f) Item.True k r.ranges h).window;
          operands = operands_there f k h;
          values = omega (arith, values_few f k, length-take k (postfix f));
          room = omega (arith, length-take k (postfix f), r.items);
        }

-- what the items make in order is the code of the formula
code_of_items : (f : Formula) → items_code (postfix f) ≡ code_for f
unfolding stack_from stack_code
code_of_items f = let value : stack_of (postfix f) ≡ f ∷ [] = rw append-nil at (made f [] []) in rw value

-- A rule that was loaded
module _ (bytes : List ℕ) (rule : Rule) (a : Accepts bytes rule) where
  module _ (is : Items) (own : is ≡ items_in rule rule.count) where
    own_items : is ≡ postfix a.formula
    unfolding rule_kept
    own_items = own ∙ rw a.own (items_back a.items a.formula) ∙ a.is_rule.own_items

    pub items_are : items_code is ≡ code_for a.formula
    items_are = rw own_items (code_of_items a.formula)

    pub can_translate : CanTranslate is
    can_translate = rw own_items (translatable bytes a.formula (rw a.is_rule.own_items at a.is_rule))

    pub prepared : (l : Loaded) (p : Program) → l ≡ loaded_in rule → p ≡ program_with (items_code is)
        → Ok (record { loaded = l; program = p }) ≡ prepared_of (read_rule bytes)
    unfolding prepared_of rule_kept loaded_in
    prepared l p tells makes = rw (tells, makes, items_are, a.own, a.read)

pub refusal_kept : (bytes : List ℕ) (r : Refusal) → Err r ≡ rule_of (read_rule bytes) → Err r ≡ prepared_of (read_rule bytes)
unfolding prepared_of
refusal_kept bytes r e = rw (rule_refused (read_rule bytes) r e)

-- What is prepared: the rule is accepted, and the code is its formula's, which is sound
pub record PreparedFor (bytes : List ℕ) (p : Prepared) : Type 0 where
  pub items : Items
  pub formula : Formula
  pub read : read_rule bytes ≡ accepted items formula
  pub is_rule : IsRule bytes items formula
  pub own_code : code_held p.program ≡ code_for formula
  pub sound : Sound (code_held p.program)

pub prepared_for : (bytes : List ℕ) (p : Prepared) → AllBytes bytes → Ok p ≡ prepared_of (read_rule bytes) → PreparedFor bytes p
unfolding prepared_of
prepared_for bytes p small e = go (read_rule bytes) refl e
  where
    go : (read : Reading) → read_rule bytes ≡ read → Ok p ≡ prepared_of read → PreparedFor bytes p
    go (accepted is f) read own =
        let rule = accepted_rule bytes is f small read in
        let (good, some) = prepared_code bytes is f small read in
        let with : p.program ≡ program_with (code_for f) = cc in
        record {
          items = is;
          formula = f;
          read = read;
          is_rule = rule;
          own_code = rw with (code_lent (code_for f));
          sound = rw with (sound_lent (code_for f) good some);
        }
    go (refused r) read own = cc

pub prepared_refused : (read : Reading) (r : Refusal) → Err r ≡ prepared_of read → read ≡ refused r
unfolding prepared_of
prepared_refused (accepted is f) r e = cc
prepared_refused (refused s) r e = cc
