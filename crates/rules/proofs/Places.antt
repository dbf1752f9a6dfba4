-- How far a rule's refusal can lie: its place is that of an item behind good items, or the length where all items are good, and good items are short.
use mathlib.Core.Path.{◌≡◌, refl}
use mathlib.Core.List.{List, [], ◌∷◌}
use Prim.Native.Nat.{ℕ, ◌≤◌}
use lib.Dec.{ltb}
use lib.ListN.{length}
use Rattle.ground.specs.Buffers.{AllBytes}
use Rattle.reading.specs.InTurn.{AllRead, read_all}
use Rattle.ground.specs.Limits.{limits, most_rule_bytes}
use Rattle.ground.specs.Refusals.{place_of}
use Rattle.ground.specs.declared.refusal.Refusal.{Refusal}
use Rattle.ground.proofs.Choices.{both_ways}
use Rattle.reading.proofs.InTurn.{Placed, all_place}
use Rattle.rules.specs.Formula.{Formula}
use Rattle.rules.specs.Inner.Good.{GoodItems}
use Rattle.rules.specs.Items.{row_of_item, bytes_of_item}
use Rattle.rules.specs.Loading.{Items, refused, one_value, at_end, item_outcome, rule_kind, check_item, bad_window, rule_too_large, rule_counts, rule_counted}
use Rattle.rules.specs.Loading.{stack_of, read_rule}
use Rattle.rules.specs.declared.item.Item.{Item}
use Rattle.std.proofs.Common.{Result, Err}
use Rattle.rules.specs.declared.check.RuleCounts.{RuleCounts}
use Rattle.rules.proofs.Accepted.{good_on, good_short, items_read}
use Rattle.rules.proofs.Good.{good_none}
use Rattle.rules.proofs.RuleBytes.{item_bytes_lem}

-- each refusal by the check has the item's place
check_placed : (is : Items) (at : ℕ) (i : Item) → Placed at (rule_kind.check is at i)
unfolding check_item
check_placed is at i =
    let P : Result RuleCounts Refusal → Type 0 = λ j. Placed at (item_outcome j) in
    both_ways P (ltb limits.flag (row_of_item i).flag) {x = Err (Refusal.FlagTooLarge at)} refl
    (both_ways P (bad_window (row_of_item i).lower (row_of_item i).upper) {x = Err (Refusal.BadWindow at)} refl
    (both_ways P (ltb (rule_counts is).depth (row_of_item i).operands) {x = Err (Refusal.TooFewOperands at)} refl
    (both_ways P (rule_too_large (rule_counted (rule_counts is) (row_of_item i))) {x = Err (Refusal.RuleTooLarge at)} refl tt)))

-- at the end the place is the length
at_end_lem : (n : ℕ) (r : Refusal) (is : Items) (st : List Formula) → one_value n is st ≡ refused r → place_of r ≡ n
at_end_lem n r is [] e = let own : r ≡ Refusal.NotOneValue n = cc in rw own
at_end_lem n r is (f ∷ []) e = cc
at_end_lem n r is (f ∷ g ∷ st) e = let own : r ≡ Refusal.NotOneValue n = cc in rw own

pub rule_place : (bytes : List ℕ) (r : Refusal) → AllBytes bytes → read_rule bytes ≡ refused r → place_of r ≤ most_rule_bytes
unfolding read_rule
rule_place bytes r small e = go (read_all rule_kind bytes) refl e
  where
    go : (w : AllRead Item) → read_all rule_kind bytes ≡ w → at_end (length bytes) w ≡ refused r → place_of r ≤ most_rule_bytes
    go (AllRead.items is) w e =
        let (g, all, some) = items_read bytes is small w in
        rw (at_end_lem (length bytes) r is (stack_of is) e, all) (good_short is g)
    go (AllRead.refused s) w e =
        let own : r ≡ s = cc in
        rw own
        (all_place rule_kind bytes_of_item GoodItems good_none good_on (λ code i j k known. item_bytes_lem code known i j k)
        most_rule_bytes good_short check_placed bytes s small w)
