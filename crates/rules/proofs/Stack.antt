-- What one item more does: to the values that items make, to what is counted of them, and to the largest horizon. Each is a case for each of the ten items.
use mathlib.Core.Path.{◌≡◌, refl, sym}
use mathlib.Core.List.{List, [], ◌∷◌, ◌++◌, map, map-append, append_assoc, append-nil}
use Prim.Native.Nat.{◌+◌, ◌-◌, ◌≤◌}
use native.Mathlib.Omega.{arith}
use lib.ListN.{length, take, drop, length-append, length-map}
use lib.Seq.{drop-append_seam, take_at}
use Rattle.rules.specs.Formula.{Formula, horizon}
use Rattle.rules.specs.Items.{row_of_item, apply, postfix}
use Rattle.rules.specs.Inner.Good.{postfixes}
use Rattle.rules.specs.Loading.{Items, stack_from, stack_of, timed_in, lower_in, rule_counts, rule_counted}
use Rattle.rules.specs.Inner.Gathered.{largest_of}
use Rattle.rules.specs.declared.item.Item.{Item}

-- one item more makes its value of the values before it
pub stack_more : (st : List Formula) (is : Items) (i : Item) → stack_from st (is ++ i ∷ []) ≡ apply i (stack_from st is)
unfolding stack_from
stack_more st [] i = refl
stack_more st (j ∷ is) i = stack_more (apply j st) is i

-- what is counted adds up
pub timed_append : (is js : Items) → timed_in (is ++ js) ≡ timed_in is + timed_in js
unfolding timed_in
timed_append [] js = omega arith
timed_append (i ∷ is) js = omega (arith, timed_append is js)

pub lower_append : (is js : Items) → lower_in (is ++ js) ≡ lower_in is + lower_in js
unfolding lower_in
lower_append [] js = omega arith
lower_append (i ∷ is) js = omega (arith, lower_append is js)

pub timed_more : (is : Items) (i : Item) → timed_in (is ++ i ∷ []) ≡ timed_in is + (row_of_item i).timed
unfolding timed_in
timed_more is i = omega (arith, timed_append is (i ∷ []))

pub lower_more : (is : Items) (i : Item) → lower_in (is ++ i ∷ []) ≡ lower_in is + (row_of_item i).lower
unfolding lower_in
lower_more is i = omega (arith, lower_append is (i ∷ []))

-- What an item makes of values that suffice as its operands: its value and the values below it; the value's horizon; the items of all of them
pub record Applied (i : Item) (st : List Formula) : Type 0 where
  pub value : Formula
  pub rest : List Formula
  pub gives : apply i st ≡ value ∷ rest
  pub left : length st ≡ (row_of_item i).operands + length rest
  pub tail : rest ≡ drop (row_of_item i).operands st
  pub far : horizon value ≡ (row_of_item i).upper + largest_of (take (row_of_item i).operands (map horizon st))
  pub items : postfixes rest ++ postfix value ≡ postfixes st ++ i ∷ []

postfixes_append : (taken rest : List Formula) → postfixes (taken ++ rest) ≡ postfixes rest ++ postfixes taken
unfolding postfixes
postfixes_append [] rest = rw append-nil
postfixes_append (f ∷ taken) rest = rw (postfixes_append taken rest, append_assoc)

-- by its operands, the last one first
of : (i : Item) (taken rest : List Formula) (v : Formula) → apply i (taken ++ rest) ≡ v ∷ rest → (row_of_item i).operands ≡ length taken
    → horizon v ≡ (row_of_item i).upper + largest_of (map horizon taken) → postfix v ≡ postfixes taken ++ i ∷ [] → Applied i (taken ++ rest)
of i taken rest v is o far items =
    record {
      value = v;
      rest = rest;
      gives = is;
      left = simp length-append (omega arith);
      tail = rw (o, drop-append_seam);
      far = rw (o, map-append, take_at (map horizon taken) _ _ (length-map taken horizon)) far;
      items = rw (items, postfixes_append, append_assoc);
    }

pub applied : (i : Item) (st : List Formula) → (row_of_item i).operands ≤ length st → Applied i st
unfolding apply horizon largest_of postfix postfixes
applied Item.True st h = of Item.True [] st Formula.True refl refl refl refl
applied Item.False st h = of Item.False [] st Formula.False refl refl refl refl
applied (Item.Flag k) st h = of (Item.Flag k) [] st (Formula.Flag k) refl refl refl refl
applied Item.Not [] h = absurd (omega arith)
applied Item.Not (f ∷ st) h = of Item.Not (f ∷ []) st (Formula.Not f) refl refl (omega arith) refl
applied (Item.Eventually a b) [] h = absurd (omega arith)
applied (Item.Eventually a b) (f ∷ st) h = of (Item.Eventually a b) (f ∷ []) st (Formula.Eventually a b f) refl refl (omega arith) refl
applied (Item.Globally a b) [] h = absurd (omega arith)
applied (Item.Globally a b) (f ∷ st) h = of (Item.Globally a b) (f ∷ []) st (Formula.Globally a b f) refl refl (omega arith) refl
applied Item.And [] h = absurd (omega arith)
applied Item.And (g ∷ []) h = absurd (omega arith)
applied Item.And (g ∷ f ∷ st) h = of Item.And (g ∷ f ∷ []) st (Formula.And f g) refl refl (omega arith) (simp append_assoc)
applied Item.Or [] h = absurd (omega arith)
applied Item.Or (g ∷ []) h = absurd (omega arith)
applied Item.Or (g ∷ f ∷ st) h = of Item.Or (g ∷ f ∷ []) st (Formula.Or f g) refl refl (omega arith) (simp append_assoc)
applied (Item.Until a b) [] h = absurd (omega arith)
applied (Item.Until a b) (g ∷ []) h = absurd (omega arith)
applied (Item.Until a b) (g ∷ f ∷ st) h = of (Item.Until a b) (g ∷ f ∷ []) st (Formula.Until a b f g) refl refl (omega arith) (simp append_assoc)
applied (Item.Release a b) [] h = absurd (omega arith)
applied (Item.Release a b) (g ∷ []) h = absurd (omega arith)
applied (Item.Release a b) (g ∷ f ∷ st) h = of (Item.Release a b) (g ∷ f ∷ []) st (Formula.Release a b f g) refl refl (omega arith) (simp append_assoc)

-- with operands enough, the counts with one item more are those of the items with it
pub counts_more : (is : Items) (i : Item) → (row_of_item i).operands ≤ (rule_counts is).depth → rule_counted (rule_counts is) (row_of_item i) ≡ rule_counts
    (is ++ i ∷ [])
unfolding rule_counts rule_counted
counts_more is i h =
    let a = applied i (stack_of is) h in
    let n : length is + 1 ≡ length (is ++ i ∷ []) = simp length-append in
    let d : length (stack_of is) - (row_of_item i).operands + 1 ≡ length (stack_of (is ++ i ∷ [])) =
    rw (stack_more, a.gives) (omega (arith, a.left)) in
    let t : timed_in is + (row_of_item i).timed ≡ timed_in (is ++ i ∷ []) = sym (timed_more is i) in
    let l : lower_in is + (row_of_item i).lower ≡ lower_in (is ++ i ∷ []) = sym (lower_more is i) in
    λ k. record { items = n k; timed = t k; lower = l k; depth = d k }
