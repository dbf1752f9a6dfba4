-- What holds of every accepted rule, for the layers above. Document 01: "At most 64 items, 16 of them timed, and the
-- lower bounds a of all timed items add up to at most 256. Bounds are 0 to 255 with a ≤ b."
use Rattle.std.specs.Prelude.{◌≡◌, List, ℕ, ◌≤◌, length}
use Rattle.ground.specs.Limits.{limits, most_horizon, most_rule_bytes}
use Rattle.rules.specs.Formula.{Formula, horizon}
use Rattle.ground.specs.Each.{Each}
use Rattle.rules.specs.Items.{row_of_item, postfix, rule_bytes}
use Rattle.rules.specs.Loading.{Items, timed_in, lower_in}
use Rattle.rules.specs.declared.item.Item.{Item}

-- A flag is at most 7, and a window is one: a ≤ b ≤ 255
pub record InRange (i : Item) : Type 0 where
  pub flag : (row_of_item i).flag ≤ limits.flag
  pub window : (row_of_item i).lower ≤ (row_of_item i).upper
  pub bound : (row_of_item i).upper ≤ limits.bound

-- The bytes, the items and the formula of an accepted rule
pub record IsRule (bytes : List ℕ) (is : Items) (f : Formula) : Type 0 where
  pub own_bytes : bytes ≡ rule_bytes is
  pub own_items : is ≡ postfix f
  pub some : 1 ≤ length is
  pub items : length is ≤ limits.items
  pub timed : timed_in is ≤ limits.timed
  pub lower : lower_in is ≤ limits.lower
  pub ranges : Each InRange is
  pub near : horizon f ≤ most_horizon
  pub short : length bytes ≤ most_rule_bytes
