-- Laws of `Gathers`. One item more takes its operands' horizons off the stack and puts its value's on, by one store, and the item into the array;
-- at the end one value is left, or the rule is refused.
use mathlib.Core.Path.{◌≡◌, refl, sym, ap, ◌∙◌}
use Rattle.std.proofs.Common.{Ok, Err}
use mathlib.Core.List.{List, [], ◌∷◌, ◌++◌, map, append_assoc}
use Prim.Native.Nat.{ℕ, suc, ◌+◌, ◌-◌, ◌*◌, ◌≤◌, ◌<◌}
use native.Mathlib.Omega.{arith}
use native.Mathlib.Numerals.{add-one}
use Rattle.std.proofs.lemmas.List.{drop-map}
use lib.Seq.{set-append_seam}
use lib.ListN.{length-append, length, get_or, take, drop, set, length-map, length-set, replicate}
use Rattle.ground.specs.Limits.{limits}
use Rattle.ground.specs.Stacked.{Stacked}
use Rattle.ground.proofs.Stacked.{stacked_drop, stacked_push}
use Rattle.rules.specs.Formula.{Formula, horizon}
use Rattle.rules.specs.Items.{row_of_item}
use Rattle.rules.specs.Loading.{Items, one_value, rule_kept, in_array, rule_of, stack_from, stack_of, timed_in, lower_in}
use Rattle.rules.specs.Loading.{rule_counts, rule_counted, check_item}
use Rattle.rules.specs.Inner.Gathered.{largest_of, Gathers}
use Rattle.rules.specs.Inner.Good.{FineItem}
use Rattle.rules.specs.declared.item.Item.{Item}
use Rattle.rules.specs.declared.item.ItemRow.{ItemRow}
use Rattle.rules.specs.declared.check.RuleCounts.{RuleCounts}
use Rattle.rules.specs.declared.gather.Gathered.{Gathered}
use Rattle.ground.specs.declared.refusal.Refusal.{Refusal}
use Rattle.rules.proofs.Checking.{fine}
use Rattle.rules.proofs.Good.{good_none, good_more, largest_bound}
use Rattle.rules.proofs.Largest.{largest_last}
use Rattle.rules.proofs.Stack.{applied, counts_more, stack_more}

-- one item more in the array
in_array_more : (is : Items) (i : Item) → length is < limits.items → set (in_array is) (length is) i ≡ in_array (is ++ i ∷ [])
unfolding in_array
in_array_more is i h =
    let e : limits.items - length is ≡ suc (limits.items - suc (length is)) = omega arith in
    let k : length (is ++ i ∷ []) ≡ suc (length is) = simp length-append (add-one (length is)) in
    rw (e, set-append_seam, k, append_assoc)

-- before the first item
pub gathers_none :
    Gathers (record {
      counts = record { items = 0; timed = 0; lower = 0; depth = 0 };
      horizons = replicate limits.items 0;
      items = replicate limits.items Item.True;
    }) []
unfolding rule_counts stack_from timed_in lower_in Stacked in_array
gathers_none = record { counts = refl; horizons = tt; room = refl; items = refl; good = good_none }

-- One item more, at a place, which passes the check behind items that are gathered, and the counts with it
pub record OneMore (g : Gathered) (is : Items) (at : ℕ) (i : Item) (c : RuleCounts) : Type 0 where
  pub gathers : Gathers g is
  pub passes : check_item (rule_counts is) at (row_of_item i) ≡ Ok c

pub one_more : (g : Gathered) (is : Items) (at : ℕ) (i : Item) (row : ItemRow) (c : RuleCounts) → Gathers g is → row ≡ row_of_item i
    → Ok c ≡ check_item g.counts at row → OneMore g is at i c
one_more g is at i row c f own e = record { gathers = f; passes = sym (rw (own, f.counts) at e) }

-- the indices and the bound that it needs
pub record Space (g : Gathered) (row : ItemRow) : Type 0 where
  pub place : g.counts.items < limits.items
  pub operands : row.operands ≤ g.counts.depth
  pub depth : g.counts.depth ≤ g.counts.items
  pub upper : row.upper ≤ limits.bound

module _ (g : Gathered) (is : Items) (at : ℕ) (i : Item) (c : RuleCounts) (m : OneMore g is at i c) where
  is_fine : FineItem (rule_counts is) i c
  is_fine = fine (rule_counts is) at i c m.passes

  pub space_of : Space g (row_of_item i)
  unfolding rule_counted
  space_of =
      let f = is_fine in
      let n : (rule_counts is).items + 1 ≤ limits.items = rw f.counts at f.items in
      rw m.gathers.counts
      (record { place = omega arith; operands = f.operands; depth = m.gathers.good.within.depth; upper = f.ranges.bound })

  -- the place of its value, and its operands' horizons, which stand last
  abbrev pub bottom_of : ℕ
  bottom_of = g.counts.depth - (row_of_item i).operands

  abbrev pub operands_of : List ℕ
  operands_of = take (g.counts.depth - bottom_of) (drop bottom_of g.horizons)

  reach_of : largest_of operands_of ≡ largest_of (take (row_of_item i).operands (map horizon (stack_of is)))
  unfolding rule_counts
  reach_of =
      let s = space_of in
      let many : g.counts.depth ≡ length (map horizon (stack_of is)) = rw length-map (ap (λ k. k.depth) m.gathers.counts) in
      let some : g.counts.depth - bottom_of ≡ (row_of_item i).operands = omega arith in
      rw (some, many)
      (largest_last g.horizons (map horizon (stack_of is)) (row_of_item i).operands m.gathers.horizons (omega arith) (omega (arith, m.gathers.room)))

  pub near_of : largest_of operands_of ≤ limits.bound * limits.timed
  unfolding rule_counts
  near_of =
      omega (
        arith,
        reach_of,
        largest_bound (limits.bound * timed_in is) (row_of_item i).operands (stack_of is) m.gathers.good.near,
        m.gathers.good.within.timed,
      )

  pub gathers_more :
      Gathers (record {
        counts = c;
        horizons = set g.horizons bottom_of ((row_of_item i).upper + largest_of operands_of);
        items = set g.items g.counts.items i;
      }) (is ++ i ∷ [])
  unfolding rule_counts
  gathers_more =
      let f = m.gathers in
      let a = applied i (stack_of is) is_fine.operands in
      let n : g.counts.items ≡ length is = ap (λ k. k.items) f.counts in
      let d : g.counts.depth ≡ length (stack_of is) = ap (λ k. k.depth) f.counts in
      let s : Stacked g.horizons (map horizon a.rest) =
      rw (a.tail, ← drop-map) (stacked_drop g.horizons (row_of_item i).operands (map horizon (stack_of is)) f.horizons) in
      let h : horizon a.value ≡ (row_of_item i).upper + largest_of operands_of = rw reach_of a.far in
      let l : bottom_of ≡ length (map horizon a.rest) = rw length-map (omega (arith, a.left)) in
      let small : length is < limits.items = omega (arith, space_of.place) in
      record {
        counts = is_fine.counts ∙ counts_more is i is_fine.operands;
        horizons =
            rw (stack_more, a.gives, h)
            (stacked_push g.horizons _ _ _ l (omega (arith, f.room, space_of.place, space_of.depth)) s);
        room = rw length-set f.room;
        items = rw (f.items, n) (in_array_more is i small);
        good = good_more is i c f.good is_fine;
      }

-- the end: exactly one value, or refusal 9
pub found_not_one : (g : Gathered) (is : Items) (n : ℕ) → Gathers g is
    → (g.counts.depth ≡ 1 → ⊥) → Err (Refusal.NotOneValue n) ≡ rule_of (one_value n is (stack_of is))
unfolding rule_counts
found_not_one g is n f h = go (stack_of is) (λ e. h (ap (λ k. k.depth) f.counts ∙ e))
  where
    go : (st : List Formula) → (length st ≡ 1 → ⊥) → Err (Refusal.NotOneValue n) ≡ rule_of (one_value n is st)
    go [] other = refl
    go (x ∷ []) other = absurd (other refl)
    go (x ∷ y ∷ st) other = refl

pub found_one : (g : Gathered) (is : Items) (n : ℕ) → Gathers g is → g.counts.depth ≡ 1
    → Ok (record { items = g.items; count = g.counts.items; horizon = get_or g.horizons 0 0 }) ≡ rule_of (one_value n is (stack_of is))
unfolding rule_counts Stacked rule_kept
found_one g is n f h = go (stack_of is) (sym (ap (λ k. k.depth) f.counts) ∙ h) f.horizons
  where
    go : (st : List Formula) → length st ≡ 1 → Stacked g.horizons (map horizon st)
        → Ok (record { items = g.items; count = g.counts.items; horizon = get_or g.horizons 0 0 }) ≡ rule_of (one_value n is st)
    go [] e s = absurd (omega arith)
    go (x ∷ []) e s = rw (f.items, ap (λ k. k.items) f.counts, s.0)
    go (x ∷ y ∷ st) e s = absurd (omega arith)
