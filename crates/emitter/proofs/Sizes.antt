-- What the translation adds to the code before it: of each item three instructions at most, two more of a timed one, whose REACH and LATER are the item's own.
-- Item by item these add up, for a formula and for the formulas that wait.
use mathlib.Core.Path.{◌≡◌, refl}
use mathlib.Core.List.{List, [], ◌∷◌, ◌++◌, append_assoc}
use Prim.Native.Nat.{ℕ, zero, suc, ◌+◌, ◌*◌, ◌≤◌, ◌<◌}
use native.Mathlib.Omega.{arith}
use lib.ListN.{length, length-append}
use Rattle.rules.specs.Formula.{Formula}
use Rattle.rules.specs.Items.{postfix, row_of_item}
use Rattle.rules.specs.Inner.Good.{postfixes}
use Rattle.rules.specs.Loading.{Items, timed_in, lower_in}
use Rattle.rules.specs.declared.item.Item.{Item}
use Rattle.rules.proofs.Stack.{timed_append, lower_append}
use Rattle.code.specs.Code.{Code}
use Rattle.code.specs.Loading.{reaches_in, distance_in}
use Rattle.code.proofs.Counting.{reaches_append, distance_append}
use Rattle.emitter.specs.Inner.Emission.{stack_code, most_own}
use Rattle.emitter.specs.Translation.{later_by, timed, item_code, behind, translate}

-- the operands' bits stand earlier, if the item has any
abbrev pub Earlier : Item → ℕ → ℕ → ℕ → Type 0
Earlier item left right n = 1 ≤ (row_of_item item).operands → (left < n) × (right < n)

-- The instructions of an item
pub item_size : (n : ℕ) (i : Item) (left right : ℕ) → let own = item_code n i left right in
    (1 ≤ length own) × (length own ≤ 3 + 2 * (row_of_item i).timed) × (length own ≤ most_own) × (reaches_in own ≡ (row_of_item i).timed)
    × (distance_in own ≡ (row_of_item i).lower)
unfolding item_code timed later_by reaches_in distance_in
item_size n Item.True left right = omega arith
item_size n Item.False left right = omega arith
item_size n (Item.Flag k) left right = omega arith
item_size n Item.Not left right = omega arith
item_size n Item.And left right = omega arith
item_size n Item.Or left right = omega arith
item_size n (Item.Until zero b) left right = omega arith
item_size n (Item.Until (suc a) b) left right = omega arith
item_size n (Item.Release zero b) left right = omega arith
item_size n (Item.Release (suc a) b) left right = omega arith
item_size n (Item.Eventually zero b) left right = omega arith
item_size n (Item.Eventually (suc a) b) left right = omega arith
item_size n (Item.Globally zero b) left right = omega arith
item_size n (Item.Globally (suc a) b) left right = omega arith

-- Code, and the same with the instructions of these items behind it
pub record Grown (c d : Code) (is : Items) : Type 0 where
  pub added : Code
  pub whole : d ≡ c ++ added
  pub more : length c < length d
  pub few : length d ≤ length c + (3 * length is + 2 * timed_in is)
  pub reaches : reaches_in d ≡ reaches_in c + timed_in is
  pub distance : distance_in d ≡ distance_in c + lower_in is

grown_item : (c : Code) (i : Item) (left right : ℕ) → Grown c (behind c i left right) (i ∷ [])
unfolding timed_in lower_in
grown_item c i left right =
    let size = item_size (length c) i left right in
    record {
      added = item_code (length c) i left right;
      whole = refl;
      more = simp length-append (omega arith);
      few = simp length-append (omega arith);
      reaches = rw reaches_append (omega arith);
      distance = rw distance_append (omega arith);
    }

joined : {c d e : Code} {is js : Items} → Grown c d is → Grown d e js → Grown c e (is ++ js)
joined g h =
    record {
      added = g.added ++ h.added;
      whole = rw (h.whole, g.whole, append_assoc);
      more = omega arith;
      few = simp (length-append, timed_append) (omega arith);
      reaches = rw timed_append (omega arith);
      distance = rw lower_append (omega arith);
    }

-- Of a formula
pub grown : (c : Code) (f : Formula) → Grown c (translate c f) (postfix f)
unfolding translate postfix
grown c Formula.True = grown_item c Item.True 0 0
grown c Formula.False = grown_item c Item.False 0 0
grown c (Formula.Flag k) = grown_item c (Item.Flag k) 0 0
grown c (Formula.Not f) = joined (grown c f) (grown_item _ Item.Not _ _)
grown c (Formula.And f g) = joined (grown c f) (joined (grown (translate c f) g) (grown_item _ Item.And _ _))
grown c (Formula.Or f g) = joined (grown c f) (joined (grown (translate c f) g) (grown_item _ Item.Or _ _))
grown c (Formula.Until a b f g) = joined (grown c f) (joined (grown (translate c f) g) (grown_item _ (Item.Until a b) _ _))
grown c (Formula.Release a b f g) = joined (grown c f) (joined (grown (translate c f) g) (grown_item _ (Item.Release a b) _ _))
grown c (Formula.Eventually a b f) = joined (grown c f) (grown_item _ (Item.Eventually a b) _ _)
grown c (Formula.Globally a b f) = joined (grown c f) (grown_item _ (Item.Globally a b) _ _)

-- Of the formulas that wait
pub stack_length : (st : List Formula) → length (stack_code st) ≤ 3 * length (postfixes st) + 2 * timed_in (postfixes st)
unfolding stack_code postfixes timed_in
stack_length [] = omega arith
stack_length (f ∷ st) = let g = grown (stack_code st) f in simp (length-append, timed_append) (omega (arith, stack_length st))
