-- What holds of the items of a rule that no test has refused so far, and so of every accepted rule: the limits of
-- document 01, and that each formula's items stand together, operands before operators. Contracts of inner functions
-- cite it; `load` says nothing of it.
use Rattle.std.specs.Prelude.{◌≡◌, List, [], ◌∷◌, ◌++◌, ◌*◌, ◌≤◌}
use Rattle.ground.specs.Each.{Each}
use Rattle.ground.specs.Limits.{limits}
use Rattle.rules.specs.Formula.{Formula, horizon}
use Rattle.rules.specs.Accepted.{InRange}
use Rattle.rules.specs.Items.{row_of_item, postfix}
use Rattle.rules.specs.Loading.{Items, rule_counts, rule_counted, stack_of, timed_in}
use Rattle.rules.specs.declared.item.Item.{Item}
use Rattle.rules.specs.declared.check.RuleCounts.{RuleCounts}

-- Counts of items that are not too large, and make no more values than they are
pub record RuleWithin (c : RuleCounts) : Type 0 where
  pub items : c.items ≤ limits.items
  pub timed : c.timed ≤ limits.timed
  pub lower : c.lower ≤ limits.lower
  pub depth : c.depth ≤ c.items

-- An item that no test refuses, after items that are counted, and the counts with it
pub record FineItem (c : RuleCounts) (i : Item) (d : RuleCounts) : Type 0 where
  pub ranges : InRange i
  pub operands : (row_of_item i).operands ≤ c.depth
  pub counts : d ≡ rule_counted c (row_of_item i)
  pub items : d.items ≤ limits.items
  pub timed : d.timed ≤ limits.timed
  pub lower : d.lower ≤ limits.lower

-- The items of formulas, of which the last one stands first
unfoldable pub postfixes : List Formula → Items
postfixes [] = []
postfixes (f ∷ st) = postfixes st ++ postfix f

-- Items that no test has refused: within the limits, each in range; a value's horizon is at most 255 for each timed
-- item; and they are the items of the values that they make
pub record GoodItems (is : Items) : Type 0 where
  pub within : RuleWithin (rule_counts is)
  pub ranges : Each InRange is
  pub near : Each (λ f. horizon f ≤ limits.bound * timed_in is) (stack_of is)
  pub whole : postfixes (stack_of is) ≡ is
