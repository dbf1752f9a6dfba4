-- An accepted rule is within the limits, and is the list of items of exactly one formula. The items that are read stand there by their bytes, and each that the
-- check finds fine keeps them good; at the end one value is left, whose items they are.
use mathlib.Core.Path.{◌≡◌, refl, sym, ap, ◌∙◌}
use mathlib.Core.List.{List, [], ◌∷◌, ◌++◌, append_assoc}
use Prim.Native.Nat.{ℕ, ◌≤◌}
use native.Mathlib.Omega.{arith}
use lib.ListN.{length}
use Rattle.ground.specs.Buffers.{AllBytes}
use Rattle.reading.specs.InTurn.{Outcome, AllRead, read_all}
use Rattle.ground.specs.declared.refusal.Refusal.{Refusal}
use Rattle.reading.proofs.InTurn.{all_back}
use Rattle.rules.specs.Accepted.{IsRule}
use Rattle.ground.specs.Limits.{most_rule_bytes}
use Rattle.rules.specs.Formula.{Formula, True, False, Flag, Not, And, Or, Until, Release, Eventually, Globally, horizon}
use Rattle.rules.specs.Inner.Good.{GoodItems, postfixes}
use Rattle.rules.specs.Items.{row_of_item, postfix, apply, bytes_of_item, rule_bytes}
use Rattle.rules.specs.Loading.{Items, Reading, accepted, refused, loaded_of, one_value, at_end, item_outcome, rule_kind, check_item, rule_counts, stack_from}
use Rattle.rules.specs.Loading.{stack_of, read_rule}
use Rattle.rules.specs.declared.item.Item.{Item}
use Rattle.std.proofs.Common.{Result, Ok, Err}
use Rattle.rules.specs.declared.check.RuleCounts.{RuleCounts}
use Rattle.rules.specs.declared.load.Loaded.{Loaded}
use Rattle.rules.proofs.Good.{good_none, good_more}
use Rattle.rules.proofs.Checking.{fine}
use Rattle.rules.proofs.RuleBytes.{item_bytes_lem, rule_length}

-- a refusal is no acceptance
differ : {A : Type 0} {r : Refusal} {is : Items} {f : Formula} → refused r ≡ accepted is f → A
differ e = cc

-- the items of a formula make that formula, of whatever stands before them
pub made : (f : Formula) (st : List Formula) (is : Items) → stack_from st (postfix f ++ is) ≡ stack_from (f ∷ st) is
unfolding postfix stack_from apply
made True st is = refl
made False st is = refl
made (Flag k) st is = refl
made (Not f) st is = rw append_assoc (made f st _)
made (And f g) st is = simp append_assoc (made f st _ ∙ made g (f ∷ st) _)
made (Or f g) st is = simp append_assoc (made f st _ ∙ made g (f ∷ st) _)
made (Until a b f g) st is = simp append_assoc (made f st _ ∙ made g (f ∷ st) _)
made (Release a b f g) st is = simp append_assoc (made f st _ ∙ made g (f ∷ st) _)
made (Eventually a b f) st is = rw append_assoc (made f st _)
made (Globally a b f) st is = rw append_assoc (made f st _)

-- so no two formulas have the same items
pub one_formula : (f g : Formula) → postfix f ≡ postfix g → f ≡ g
unfolding stack_from
one_formula f g e =
    let p : stack_from [] (postfix f ++ []) ≡ f ∷ [] = made f [] [] in
    let q : stack_from [] (postfix g ++ []) ≡ g ∷ [] = made g [] [] in
    let s : stack_from [] (postfix f ++ []) ≡ stack_from [] (postfix g ++ []) = ap (λ is. stack_from [] (is ++ [])) e in
    cc

-- the end of a rule that is accepted: all its items are read, and these make the formula
at_end_lem : (n : ℕ) (w : AllRead Item) (is : Items) (f : Formula) → at_end n w ≡ accepted is f → (w ≡ AllRead.items is) × (stack_of is ≡ f ∷ [])
at_end_lem n (AllRead.items js) is f e = go (stack_of js) refl e
  where
    go : (st : List Formula) → stack_of js ≡ st → one_value n js st ≡ accepted is f → (AllRead.items js ≡ AllRead.items is) × (stack_of is ≡ f ∷ [])
    go [] v e = differ e
    go (g ∷ []) v e = (cc, cc)
    go (g ∷ h ∷ st) v e = differ e
at_end_lem n (AllRead.refused r) is f e = differ e

-- an item that the check finds fine keeps the items good
pub good_on : (is : Items) (at : ℕ) (i : Item) → GoodItems is → rule_kind.check is at i ≡ Outcome.fine → GoodItems (is ++ i ∷ [])
good_on is at i g e = go (check_item (rule_counts is) at (row_of_item i)) refl e
  where
    go : (d : Result RuleCounts Refusal) → check_item (rule_counts is) at (row_of_item i) ≡ d → item_outcome d ≡ Outcome.fine → GoodItems (is ++ i ∷ [])
    go (Ok c) j e = good_more is i c g (fine (rule_counts is) at i c j)
    go (Err r) j e = cc

-- good items are short
pub good_short : (is : Items) → GoodItems is → length (rule_bytes is) ≤ most_rule_bytes
unfolding rule_counts
good_short is g = omega (arith, rule_length is g.ranges, g.within.items, g.within.timed)

-- the items that are read are good, and their bytes are all the bytes
pub items_read : (bytes : List ℕ) (is : Items) → AllBytes bytes → read_all rule_kind bytes ≡ AllRead.items is
    → GoodItems is × (bytes ≡ rule_bytes is) × (1 ≤ length is)
items_read = all_back rule_kind bytes_of_item GoodItems good_none good_on (λ code i j k known. item_bytes_lem code known i j k)

-- The rule that is accepted
pub accepted_rule : (bytes : List ℕ) (is : Items) (f : Formula) → AllBytes bytes → read_rule bytes ≡ accepted is f → IsRule bytes is f
unfolding read_rule rule_counts postfixes
accepted_rule bytes is f small e =
    let (w, value) = at_end_lem (length bytes) (read_all rule_kind bytes) is f e in
    let (g, all, some) = items_read bytes is small w in
    let near = rw value at g.near in
    record {
      own_bytes = all;
      own_items = sym (rw value at g.whole);
      some = some;
      items = g.within.items;
      timed = g.within.timed;
      lower = g.within.lower;
      ranges = g.ranges;
      near = omega (arith, near.0, g.within.timed);
      short = rw all (good_short is g);
    }

-- What an answer of loading tells of the rule that was read
pub loaded_accepted : (read : Reading) (l : Loaded) → Ok l ≡ loaded_of read
    → (is : Items) × (f : Formula) × (read ≡ accepted is f) × (l.items ≡ length is) × (l.horizon ≡ horizon f)
loaded_accepted (accepted is f) l e = let own : l ≡ record { items = length is; horizon = horizon f } = cc in (is, f, refl, rw own, rw own)
loaded_accepted (refused r) l e = cc

pub loaded_refused : (read : Reading) (r : Refusal) → Err r ≡ loaded_of read → read ≡ refused r
loaded_refused (accepted is f) r e = cc
loaded_refused (refused s) r e = cc
