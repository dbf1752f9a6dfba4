-- Items that no test refuses stay good: by what one item more does to values and counts.
use mathlib.Core.Path.{◌≡◌, refl, ap, ◌∙◌}
use mathlib.Core.List.{List, [], ◌∷◌, ◌++◌, map}
use Prim.Native.Nat.{ℕ, zero, suc, ◌*◌, ◌≤◌}
use native.Mathlib.Omega.{arith}
use lib.ListN.{take, drop}
use Rattle.ground.specs.Limits.{limits}
use Rattle.rules.specs.Formula.{Formula, horizon}
use Rattle.ground.specs.Each.{Each}
use Rattle.ground.proofs.Each.{each_more}
use Rattle.rules.specs.Accepted.{InRange}
use Rattle.rules.specs.Inner.Good.{FineItem, GoodItems, postfixes}
use Rattle.rules.specs.Items.{row_of_item}
use Rattle.rules.specs.Loading.{Items, stack_from, stack_of, timed_in, lower_in, rule_counts, rule_counted}
use Rattle.rules.specs.Inner.Gathered.{largest_of}
use Rattle.rules.specs.declared.item.Item.{Item}
use Rattle.rules.specs.declared.check.RuleCounts.{RuleCounts}
use Rattle.rules.proofs.Stack.{applied, counts_more, stack_more, timed_more}

each_drop : {A : Type 0} (P Q : A → Type 0) (n : ℕ) (xs : List A) → ((x : A) → P x → Q x) → Each P xs → Each Q (drop n xs)
each_drop P Q zero [] f e = tt
each_drop P Q zero (x ∷ xs) f e = (f x e.0, each_drop P Q zero xs f e.1)
each_drop P Q (suc n) [] f e = tt
each_drop P Q (suc n) (x ∷ xs) f e = each_drop P Q n xs f e.1

pub largest_bound : (m n : ℕ) (st : List Formula) → Each (λ f. horizon f ≤ m) st → largest_of (take n (map horizon st)) ≤ m
unfolding largest_of
largest_bound m zero st e = omega arith
largest_bound m (suc n) [] e = omega arith
largest_bound m (suc n) (f ∷ st) e = omega (arith, largest_bound m n st e.1, e.0)

-- only a timed item has an upper bound
upper_timed : (i : Item) → InRange i → (row_of_item i).upper ≤ limits.bound * (row_of_item i).timed
upper_timed Item.True r = omega arith
upper_timed Item.False r = omega arith
upper_timed (Item.Flag k) r = omega arith
upper_timed Item.Not r = omega arith
upper_timed Item.And r = omega arith
upper_timed Item.Or r = omega arith
upper_timed (Item.Until a b) r = omega arith
upper_timed (Item.Release a b) r = omega arith
upper_timed (Item.Eventually a b) r = omega arith
upper_timed (Item.Globally a b) r = omega arith

pub good_none : GoodItems []
unfolding stack_from rule_counts timed_in lower_in postfixes
good_none = record { within = omega arith; ranges = tt; near = tt; whole = refl }

pub good_more : (is : Items) (i : Item) (d : RuleCounts) → GoodItems is → FineItem (rule_counts is) i d → GoodItems (is ++ i ∷ [])
unfolding rule_counts rule_counted postfixes
good_more is i d g f =
    let a = applied i (stack_of is) f.operands in
    let c : d ≡ rule_counts (is ++ i ∷ []) = f.counts ∙ counts_more is i f.operands in
    let low = upper_timed i f.ranges in
    let top = largest_bound (limits.bound * timed_in is) (row_of_item i).operands (stack_of is) g.near in
    record {
      within =
          rw (← c)
          (record {
            items = f.items;
            timed = f.timed;
            lower = f.lower;
            depth = rw f.counts (omega (arith, g.within.depth));
          });
      ranges = each_more InRange is i g.ranges f.ranges;
      near = rw (stack_more, a.gives, timed_more) (
        omega (arith, a.far),
        rw a.tail (each_drop _ _ (row_of_item i).operands (stack_of is) (λ x h. omega (arith, timed_more is i)) g.near),
      );
      whole = rw (stack_more, a.gives) (a.items ∙ ap (λ js. js ++ i ∷ []) g.whole);
    }
