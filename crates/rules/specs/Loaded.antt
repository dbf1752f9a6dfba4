-- A rule that was loaded: the bytes that it was loaded from, its items, and what is told of it.
use Rattle.std.specs.Prelude.{◌≡◌, Ok, List, ℕ, take}
use Rattle.ground.specs.Buffers.{AllBytes}
use Rattle.rules.specs.Loading.{Items, read_rule, rule_of}
use Rattle.rules.specs.declared.load.Loaded.{Loaded}
use Rattle.rules.specs.declared.load.Rule.{Rule}

-- A rule that was loaded from bytes
pub record LoadedFrom (bytes : List ℕ) (rule : Rule) : Type 0 where
  pub small : AllBytes bytes
  pub own : Ok rule ≡ rule_of (read_rule bytes)

-- The first so many items of a rule
unfoldable pub items_in : Rule → ℕ → Items
items_in rule n = take n rule.items

-- What is told of a rule: how many items it has, and its horizon
unfoldable pub loaded_in : Rule → Loaded
loaded_in rule = record { items = rule.count; horizon = rule.horizon }
