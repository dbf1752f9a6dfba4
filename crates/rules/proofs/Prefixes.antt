-- The values of the first items of a formula. Each item finds its operands among the values of those before it and puts one value in their place; so at each
-- place the items so far are those of the values that they make, and there are no more values than items.
use mathlib.Core.Path.{◌≡◌, ap, ◌∙◌}
use mathlib.Core.List.{List, [], ◌∷◌, ◌++◌, append_assoc, append-nil}
use Prim.Native.Nat.{ℕ, zero, suc, ◌+◌, ◌≤◌, ◌<◌}
use native.Mathlib.Omega.{arith}
use lib.ListN.{length, get_or, take}
use Rattle.rules.specs.Formula.{Formula}
use Rattle.rules.specs.Items.{postfix, row_of_item, apply}
use Rattle.rules.specs.Inner.Good.{postfixes}
use Rattle.rules.specs.Loading.{Items, stack_from, stack_of}
use Rattle.rules.specs.declared.item.Item.{Item}
use Rattle.rules.proofs.Complete.{Enough, enough}
use Rattle.rules.proofs.Stack.{applied}

-- the operands of an item, and the items of the values before it, behind whatever values stand there
there_from : (is : Items) (st : List Formula) (k : ℕ) → Enough st is → k < length is
    → (row_of_item (get_or is k Item.True)).operands ≤ length (stack_from st (take k is))
unfolding stack_from
there_from [] st k e h = absurd (omega arith)
there_from (i ∷ is) st zero e h = e.0
there_from (i ∷ is) st (suc k) e h = there_from is (apply i st) k e.1 (omega arith)

few_from : (is : Items) (st : List Formula) (k : ℕ) → Enough st is → length (stack_from st (take k is)) ≤ length st + k
unfolding stack_from
few_from is st zero e = omega arith
few_from [] st (suc k) e = omega arith
few_from (i ∷ is) st (suc k) e =
    let a = applied i st e.0 in
    omega (arith, a.left, ap length a.gives, few_from is (apply i st) k e.1)

whole_from : (is : Items) (st : List Formula) (k : ℕ) → Enough st is → postfixes (stack_from st (take k is)) ≡ postfixes st ++ take k is
unfolding stack_from postfixes
whole_from is st zero e = rw append-nil
whole_from [] st (suc k) e = rw append-nil
whole_from (i ∷ is) st (suc k) e =
    let a = applied i st e.0 in
    let one : postfixes (apply i st) ≡ postfixes st ++ i ∷ [] = rw a.gives a.items in
    whole_from is (apply i st) k e.1 ∙ rw (one, append_assoc)

-- a formula's items suffice each other
own_enough : (f : Formula) → Enough [] (postfix f)
own_enough f = rw append-nil at (enough f [] [] tt)

-- Each item of a formula finds its operands among the values of those before it
pub operands_there : (f : Formula) (k : ℕ) → k < length (postfix f) → (row_of_item (get_or (postfix f) k Item.True)).operands ≤ length
    (stack_of (take k (postfix f)))
operands_there f k h = there_from (postfix f) [] k (own_enough f) h

-- There are no more values than items
pub values_few : (f : Formula) (k : ℕ) → length (stack_of (take k (postfix f))) ≤ k
values_few f k = omega (arith, few_from (postfix f) [] k (own_enough f))

-- The first items of a formula are the items of the values that they make
pub whole_prefix : (f : Formula) (k : ℕ) → postfixes (stack_of (take k (postfix f))) ≡ take k (postfix f)
unfolding postfixes
whole_prefix f k = whole_from (postfix f) [] k (own_enough f)
