-- Items and their bytes: the bytes that are read as an item are those of the item that they make, by each of the ten codes; and items in range are short.
use mathlib.Core.Path.{◌≡◌, refl}
use mathlib.Core.List.{[], ◌∷◌, append-nil}
use Prim.Native.Nat.{ℕ, ◌+◌, ◌*◌, ◌≤◌, ◌<◌}
use native.Mathlib.Omega.{arith}
use borrow.Author.Tests.{lt-ltb}
use lib.ListN.{length, drop, length-append}
use Rattle.reading.specs.InTurn.{bytes_of_all}
use Rattle.reading.specs.Items.{item_bytes, numbers_of, no_code, numbers_bytes, look, rule_codes}
use Rattle.ground.specs.Limits.{limits}
use Rattle.reading.proofs.Items.{by_row}
use Rattle.reading.proofs.Numbers.{number_length}
use Rattle.reading.specs.Numbers.{group, number_bytes}
use Rattle.reading.specs.declared.item.Table.{Table}
use Rattle.ground.specs.Each.{Each}
use Rattle.rules.specs.Accepted.{InRange}
use Rattle.rules.specs.Items.{item_of, row_of_item, bytes_of_item, rule_bytes}
use Rattle.rules.specs.Loading.{Items, timed_in}
use Rattle.rules.specs.declared.item.Item.{Item}

pub item_bytes_lem : (code : ℕ) → numbers_of Table.Rule code < no_code → (i j k : ℕ) → item_bytes Table.Rule code i j k ≡ bytes_of_item (item_of code i i j)
unfolding item_bytes numbers_bytes look rule_codes bytes_of_item item_of
item_bytes_lem =
    let P : ℕ → Type 0 = λ code. (i j k : ℕ) → item_bytes Table.Rule code i j k ≡ bytes_of_item (item_of code i i j) in
    let timed : Each (λ r. P r.code) (drop 6 rule_codes) =
    ((λ i j k. rw append-nil), ((λ i j k. rw append-nil), ((λ i j k. rw append-nil), ((λ i j k. rw append-nil), tt)))) in
    by_row P rule_codes
    ((λ i j k. refl), ((λ i j k. refl), ((λ i j k. rw append-nil), ((λ i j k. refl), ((λ i j k. refl), ((λ i j k. refl), timed))))))

-- a flag takes one byte
flag_length : (n : ℕ) → n ≤ limits.flag → length (number_bytes n) ≡ 1
unfolding number_bytes
flag_length n h = rw (lt-ltb n group (omega arith))

-- an item takes two bytes at most, a timed one three more
item_length : (i : Item) → InRange i → length (bytes_of_item i) ≤ 2 + 3 * (row_of_item i).timed
unfolding bytes_of_item
item_length Item.True r = omega arith
item_length Item.False r = omega arith
item_length (Item.Flag k) r = omega (arith, flag_length k r.flag)
item_length Item.Not r = omega arith
item_length Item.And r = omega arith
item_length Item.Or r = omega arith
item_length (Item.Until a b) r = simp length-append (omega (arith, number_length a, number_length b))
item_length (Item.Release a b) r = simp length-append (omega (arith, number_length a, number_length b))
item_length (Item.Eventually a b) r = simp length-append (omega (arith, number_length a, number_length b))
item_length (Item.Globally a b) r = simp length-append (omega (arith, number_length a, number_length b))

pub rule_length : (is : Items) → Each InRange is → length (rule_bytes is) ≤ 2 * length is + 3 * timed_in is
unfolding bytes_of_all timed_in
rule_length [] e = omega arith
rule_length (i ∷ is) e = simp length-append (omega (arith, item_length i e.0, rule_length is e.1))
