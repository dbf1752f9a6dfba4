-- Translating a rule item by item. Document 01: "Emitted code, for each item in order after its operands". Contracts of
-- inner functions cite this; `emit` says nothing of it.
use Rattle.std.specs.Prelude.{cond, List, [], ◌∷◌, ℕ, ◌+◌, ◌-◌, ◌≤◌, ◌<◌, ltb, length, get_or, set}
use Rattle.std.specs.Prelude.{replicate, take}
use Rattle.ground.specs.Limits.{limits}
use Rattle.rules.specs.Formula.{Formula}
use Rattle.rules.specs.Items.{row_of_item}
use Rattle.rules.specs.Loading.{Items, stack_of}
use Rattle.rules.specs.declared.item.Item.{Item}
use Rattle.code.specs.Code.{Code}
use Rattle.code.specs.Loading.{program_with}
use Rattle.code.specs.declared.instruction.Instruction.{Instruction}
use Rattle.emitter.specs.Translation.{item_code, translate}
use Rattle.emitter.specs.declared.emission.Emission.{Emission}

-- The code of the formulas that wait, the last one first
unfoldable pub stack_code : List Formula → Code
stack_code [] = []
stack_code (f ∷ st) = translate (stack_code st) f

-- Before the first item
abbrev pub nothing_emitted : Emission
nothing_emitted = record { program = program_with []; bits = replicate limits.items 0; depth = 0 }

-- With one instruction more, behind the others
abbrev pub pushed : Emission → Instruction → Emission
pushed e i =
    let p = e.program in
    record e { program = record { instructions = set p.instructions p.count i; count = p.count + 1 } }

-- With these instructions more, in order
abbrev pub with_code : Emission → Code → Emission
with_code e [] = e
with_code e (i ∷ is) = with_code (pushed e i) is

-- How many instructions an item has at most: three, and two more if it is timed
abbrev pub most_own : ℕ
most_own = 3 + 2

-- The bit that stands so far below the top of a stack; 0 if there are not so many
abbrev pub from_top : List ℕ → ℕ → ℕ → ℕ
from_top bits depth below = cond (ltb depth below) 0 (get_or bits (depth - below) 0)

-- The instructions of an item whose operands are the last values
abbrev pub own_code : Emission → Item → Code
own_code e item = item_code e.program.count item (from_top e.bits e.depth 2) (from_top e.bits e.depth 1)

-- With a value, whose bit is the last one, in the place of so many
abbrev pub with_value : Emission → ℕ → Emission
with_value e operands =
    let bottom = e.depth - operands in
    record e { bits = set e.bits bottom (e.program.count - 1); depth = bottom + 1 }

-- With one item more
abbrev pub next_of : Emission → Item → Emission
next_of e item = with_value (with_code e (own_code e item)) (row_of_item item).operands

-- One item more has its operands, a window that is one, and room
pub record CanAdd (e : Emission) (item : Item) : Type 0 where
  pub window : (row_of_item item).lower ≤ (row_of_item item).upper
  pub operands : (row_of_item item).operands ≤ e.depth
  pub depth : e.depth - (row_of_item item).operands < limits.items
  pub above : e.depth ≤ limits.items
  pub room : e.program.count + most_own ≤ limits.instructions

-- An item that can be added behind those before it
pub record Translatable (before : Items) (item : Item) : Type 0 where
  pub window : (row_of_item item).lower ≤ (row_of_item item).upper
  pub operands : (row_of_item item).operands ≤ length (stack_of before)
  pub values : length (stack_of before) ≤ length before
  pub room : length (stack_code (stack_of before)) + most_own ≤ limits.instructions

-- Items that can be translated, one after the other
pub record CanTranslate (is : Items) : Type 0 where
  pub few : length is ≤ limits.items
  pub ready : (k : ℕ) → k < length is → Translatable (take k is) (get_or is k Item.True)

-- The code of items: that of the formulas that they make
abbrev pub items_code : Items → Code
items_code is = stack_code (stack_of is)
