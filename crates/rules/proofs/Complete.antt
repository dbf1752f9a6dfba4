-- Every formula whose items are within the limits is read from their bytes: as these are the items of a formula, each finds its operands among the values of
-- those before it, so none is refused in its turn.
use mathlib.Core.Path.{◌≡◌, refl, ap, ◌∙◌}
use mathlib.Core.List.{List, [], ◌∷◌, ◌++◌, append_assoc, append-nil}
use Prim.Native.Nat.{ℕ, ◌+◌, ◌≤◌, ◌<◌}
use native.Mathlib.Omega.{arith}
use borrow.Author.Tests.{le-ltb}
use lib.ListN.{length, take, length-append}
use Rattle.ground.specs.Each.{Each}
use Rattle.ground.proofs.Each.{each_then}
use Rattle.reading.specs.InTurn.{read_all}
use Rattle.reading.specs.Items.{most_numbers, numbers_of, no_code, look, rule_codes}
use Rattle.ground.specs.Limits.{limits}
use Rattle.ground.specs.Padded.{padded}
use Rattle.reading.specs.declared.item.Table.{Table}
use Rattle.reading.proofs.InTurn.{Numbered, Passes, all_there}
use Rattle.rules.specs.Accepted.{IsRule, InRange}
use Rattle.rules.specs.Formula.{Formula, True, False, Flag, Not, And, Or, Until, Release, Eventually, Globally}
use Rattle.rules.specs.Inner.Good.{FineItem}
use Rattle.rules.specs.Items.{postfix, row_of_item, item_of, apply, bytes_of_item}
use Rattle.rules.specs.Loading.{Items, accepted, at_end, item_outcome, rule_kind, check_item, bad_window, rule_too_large, rule_counts, rule_counted, stack_from}
use Rattle.rules.specs.Loading.{stack_of, timed_in, lower_in, read_rule}
use Rattle.rules.specs.declared.item.Item.{Item}
use Rattle.rules.specs.declared.check.RuleCounts.{RuleCounts}
use Rattle.std.proofs.Common.{Ok}
use Rattle.rules.proofs.Accepted.{made}
use Rattle.rules.proofs.RuleBytes.{item_bytes_lem}
use Rattle.rules.proofs.Stack.{stack_more, timed_more, lower_more}

-- the numbers behind an item's code byte, of which the item is made
numbers : {i : Item} (x y : ℕ) → (numbers_of Table.Rule (row_of_item i).code < no_code) × (x ≤ limits.bound) × (y ≤ limits.bound)
    → x ∷ y ∷ 0 ∷ [] ≡ padded most_numbers (take (numbers_of Table.Rule (row_of_item i).code) (x ∷ y ∷ 0 ∷ []))
    → item_of (row_of_item i).code x x y ≡ i → Numbered rule_kind bytes_of_item i
numbers {i} x y small lacks makes =
    record {
      code = (row_of_item i).code;
      first = x;
      second = y;
      third = 0;
      fits = record { known = small.0; first = omega arith; second = omega arith; third = omega arith; lacks = lacks };
      makes = makes;
      same = item_bytes_lem (row_of_item i).code small.0 x y 0 ∙ ap bytes_of_item makes;
    }

pub numbered : (i : Item) → InRange i → Numbered rule_kind bytes_of_item i
unfolding look rule_codes padded item_of
numbered Item.True r = numbers 0 0 (omega arith) refl refl
numbered Item.False r = numbers 0 0 (omega arith) refl refl
numbered (Item.Flag k) r = numbers k 0 (omega arith) refl refl
numbered Item.Not r = numbers 0 0 (omega arith) refl refl
numbered Item.And r = numbers 0 0 (omega arith) refl refl
numbered Item.Or r = numbers 0 0 (omega arith) refl refl
numbered (Item.Until a b) r = numbers a b (omega arith) refl refl
numbered (Item.Release a b) r = numbers a b (omega arith) refl refl
numbered (Item.Eventually a b) r = numbers a b (omega arith) refl refl
numbered (Item.Globally a b) r = numbers a b (omega arith) refl refl

-- an item that passes each test is not refused
passed : (c : RuleCounts) (at : ℕ) (i : Item) → FineItem c i (rule_counted c (row_of_item i))
    → check_item c at (row_of_item i) ≡ Ok (rule_counted c (row_of_item i))
unfolding check_item bad_window rule_too_large
passed c at i f = simp (le-ltb, f.ranges.flag, f.ranges.window, f.ranges.bound, f.operands, f.items, f.timed, f.lower)

-- each item finds its operands among the values before it
abbrev pub Enough : List Formula → Items → Type 0
Enough st [] = Unit {0}
Enough st (i ∷ is) = ((row_of_item i).operands ≤ length st) × Enough (apply i st) is

-- so do the items of a formula
pub enough : (f : Formula) (st : List Formula) (is : Items) → Enough (f ∷ st) is → Enough st (postfix f ++ is)
unfolding postfix apply
enough True st is e = (omega arith, e)
enough False st is e = (omega arith, e)
enough (Flag k) st is e = (omega arith, e)
enough (Not f) st is e = rw append_assoc (enough f st _ (omega arith, e))
enough (And f g) st is e = simp append_assoc (enough f st _ (enough g (f ∷ st) _ (omega arith, e)))
enough (Or f g) st is e = simp append_assoc (enough f st _ (enough g (f ∷ st) _ (omega arith, e)))
enough (Until a b f g) st is e = simp append_assoc (enough f st _ (enough g (f ∷ st) _ (omega arith, e)))
enough (Release a b f g) st is e = simp append_assoc (enough f st _ (enough g (f ∷ st) _ (omega arith, e)))
enough (Eventually a b f) st is e = rw append_assoc (enough f st _ (omega arith, e))
enough (Globally a b f) st is e = rw append_assoc (enough f st _ (omega arith, e))

-- behind some items others are to come, and with them the limits are kept
record Ahead (is js : Items) : Type 0 where
  ranges : Each InRange js
  operands : Enough (stack_of is) js
  items : length is + length js ≤ limits.items
  timed : timed_in is + timed_in js ≤ limits.timed
  lower : lower_in is + lower_in js ≤ limits.lower

-- so each is fine in its turn
passes : (is js : Items) → Ahead is js → Passes rule_kind is js
unfolding rule_counts rule_counted timed_in lower_in
passes is [] a = tt
passes is (i ∷ js) a =
    let f : FineItem (rule_counts is) i (rule_counted (rule_counts is) (row_of_item i)) =
    record {
      ranges = a.ranges.0;
      operands = a.operands.0;
      counts = refl;
      items = omega arith;
      timed = omega arith;
      lower = omega arith;
    } in
    let less : Ahead (is ++ i ∷ []) js =
    record {
      ranges = a.ranges.1;
      operands = rw stack_more a.operands.1;
      items = simp length-append (omega arith);
      timed = rw timed_more (omega arith);
      lower = rw lower_more (omega arith);
    } in
    (λ at. ap item_outcome (passed (rule_counts is) at i f), passes (is ++ i ∷ []) js less)

-- The rule that is read
pub rule_accepted : (bytes : List ℕ) (is : Items) (f : Formula) → IsRule bytes is f → read_rule bytes ≡ accepted is f
unfolding read_rule stack_from timed_in lower_in
rule_accepted bytes is f r =
    let value : stack_of is ≡ f ∷ [] = rw r.own_items (rw append-nil at (made f [] [])) in
    let a : Ahead [] is =
    record {
      ranges = r.ranges;
      operands = rw r.own_items (rw append-nil at (enough f [] [] tt));
      items = omega arith;
      timed = omega arith;
      lower = omega arith;
    } in
    let read = all_there rule_kind bytes_of_item is r.some (passes [] is a) (each_then InRange (Numbered rule_kind bytes_of_item) numbered is r.ranges) in
    ap (at_end (length bytes)) (ap (read_all rule_kind) r.own_bytes ∙ read) ∙ rw value
