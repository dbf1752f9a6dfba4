-- Reading a rule: the items in turn, each checked as it comes, and at the end one value. Document 01: "Items are judged
-- in turn: 2, then 3 or 4 number by number, then 5, 6, 7, 8 ..; 9 last, for rules only"; "At most 64 items, 16 of them
-- timed, and the lower bounds a of all timed items add up to at most 256. Bounds are 0 to 255 with a ≤ b." What the
-- check says of an item is a function of the items before it.
use Rattle.std.specs.Prelude.{Bool, cond, ◌||◌, Result, Ok, Err, List, [], ◌∷◌, ◌++◌, ℕ, ◌+◌, ◌-◌, ltb, length}
use Rattle.std.specs.Prelude.{replicate}
use Rattle.ground.specs.Limits.{limits}
use Rattle.reading.specs.InTurn.{Kind, Outcome, AllRead, read_all}
use Rattle.reading.specs.declared.item.Table.{Table}
use Rattle.ground.specs.declared.refusal.Refusal.{Refusal}
use Rattle.rules.specs.Formula.{Formula, horizon}
use Rattle.rules.specs.Items.{row_of_item, item_of, apply}
use Rattle.rules.specs.declared.item.Item.{Item}
use Rattle.rules.specs.declared.item.ItemRow.{ItemRow}
use Rattle.rules.specs.declared.check.RuleCounts.{RuleCounts}
use Rattle.rules.specs.declared.load.Rule.{Rule}
use Rattle.rules.specs.declared.load.Loaded.{Loaded}

-- The items of a rule, in order
abbrev pub Items : Type 0
Items = List Item

-- The formulas that items make of those that stand before them, the last one first
unfoldable pub stack_from : List Formula → Items → List Formula
stack_from st [] = st
stack_from st (i ∷ is) = stack_from (apply i st) is

-- The formulas that items make
abbrev pub stack_of : Items → List Formula
stack_of is = stack_from [] is

-- How many items are timed
unfoldable pub timed_in : Items → ℕ
timed_in [] = 0
timed_in (i ∷ is) = (row_of_item i).timed + timed_in is

-- What the lower bounds add up to
unfoldable pub lower_in : Items → ℕ
lower_in [] = 0
lower_in (i ∷ is) = (row_of_item i).lower + lower_in is

-- What is counted of the items read so far; depth is the number of values
unfoldable pub rule_counts : Items → RuleCounts
rule_counts is = record { items = length is; timed = timed_in is; lower = lower_in is; depth = length (stack_of is) }

-- The counts with one item more, which puts one value in the place of its operands
unfoldable pub rule_counted : RuleCounts → ItemRow → RuleCounts
rule_counted c row =
    record {
      items = c.items + 1;
      timed = c.timed + row.timed;
      lower = c.lower + row.lower;
      depth = c.depth - row.operands + 1;
    }

-- a > b or b > 255
unfoldable pub bad_window : ℕ → ℕ → Bool
bad_window lower upper = ltb upper lower || ltb limits.bound upper

-- 65th item, 17th timed item, or lower bounds above 256
unfoldable pub rule_too_large : RuleCounts → Bool
rule_too_large c = ltb limits.items c.items || (ltb limits.timed c.timed || ltb limits.lower c.lower)

-- The item at a place, by its row, after items that are counted: 5, 6, 7, 8 in turn
unfoldable pub check_item : RuleCounts → ℕ → ItemRow → Result RuleCounts Refusal
check_item c at row =
    cond (ltb limits.flag row.flag) (Err (Refusal.FlagTooLarge at))
    (cond (bad_window row.lower row.upper) (Err (Refusal.BadWindow at))
    (cond (ltb c.depth row.operands) (Err (Refusal.TooFewOperands at))
    (cond (rule_too_large (rule_counted c row)) (Err (Refusal.RuleTooLarge at)) (Ok (rule_counted c row)))))

-- What reading a rule gives: its items and the formula that they make, or the refusal
pub data Reading : Type 0 where
  accepted : Items → Formula → Reading
  refused : Refusal → Reading

-- Not exactly one value at the end is 9, at the length
abbrev pub one_value : ℕ → Items → List Formula → Reading
one_value n is [] = refused (Refusal.NotOneValue n)
one_value n is (f ∷ []) = accepted is f
one_value n is (f ∷ g ∷ st) = refused (Refusal.NotOneValue n)

-- What becomes of an item that is checked
abbrev pub item_outcome : Result RuleCounts Refusal → Outcome
item_outcome (Ok c) = Outcome.fine
item_outcome (Err r) = Outcome.bad r

-- Rules as a kind of items, checked by what is counted of the items before
abbrev pub rule_kind : Kind Item
rule_kind =
    record {
      table = Table.Rule;
      make = λ code i j k. item_of code i i j;
      check = λ is at i. item_outcome (check_item (rule_counts is) at (row_of_item i));
    }

-- The end of a rule of so many bytes: its items make one value, or they are refused; a refusal on the way stays
abbrev pub at_end : ℕ → AllRead Item → Reading
at_end n (AllRead.items is) = one_value n is (stack_of is)
at_end n (AllRead.refused r) = refused r

-- A rule's bytes: its items in turn, then the end
unfoldable pub read_rule : List ℕ → Reading
read_rule bytes = at_end (length bytes) (read_all rule_kind bytes)

-- What loading tells: the number of items and the horizon, or the refusal
abbrev pub loaded_of : Reading → Result Loaded Refusal
loaded_of (accepted is f) = Ok (record { items = length is; horizon = horizon f })
loaded_of (refused r) = Err r

-- The items of a rule in an array, with true behind them
unfoldable pub in_array : Items → List Item
in_array is = is ++ replicate (limits.items - length is) Item.True

-- What is kept of a rule that is accepted: its items, how many they are, and its horizon
unfoldable pub rule_kept : Items → Formula → Rule
rule_kept is f = record { items = in_array is; count = length is; horizon = horizon f }

-- What loading keeps of a rule, or the refusal
abbrev pub rule_of : Reading → Result Rule Refusal
rule_of (accepted is f) = Ok (rule_kept is f)
rule_of (refused r) = Err r
