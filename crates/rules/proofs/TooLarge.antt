-- The bytes of a formula's items, each in range, are read as this formula, or they are refused as too large: each item finds its operands, so no other test
-- refuses one.
use mathlib.Core.Path.{◌≡◌, refl, ap, ◌∙◌}
use mathlib.Core.Bool.{cond}
use mathlib.Core.List.{[], ◌∷◌, ◌++◌, append_assoc, append-nil}
use mathlib.Core.Logic.{◌⊎◌, inl, inr, ⊎_elim}
use Prim.Native.Nat.{ℕ, ◌+◌, ◌≤◌}
use native.Mathlib.Omega.{arith}
use borrow.Author.Tests.{le-ltb}
use lib.ListN.{length}
use Rattle.ground.specs.Each.{Each}
use Rattle.reading.specs.InTurn.{AllRead, after_checked}
use Rattle.ground.specs.declared.refusal.Refusal.{Refusal}
use Rattle.ground.proofs.Choices.{both_ways}
use Rattle.ground.proofs.Each.{each_then}
use Rattle.reading.proofs.InTurn.{Numbered, checked_from, all_checked}
use Rattle.rules.specs.Formula.{Formula}
use Rattle.rules.specs.Accepted.{InRange}
use Rattle.rules.specs.Items.{postfix, row_of_item, bytes_of_item, rule_bytes}
use Rattle.rules.specs.Loading.{Items, accepted, refused, at_end, item_outcome, rule_kind, check_item, bad_window, rule_too_large, rule_counts, rule_counted}
use Rattle.rules.specs.Loading.{stack_from, stack_of, read_rule}
use Rattle.rules.specs.declared.item.Item.{Item}
use Rattle.rules.specs.declared.check.RuleCounts.{RuleCounts}
use Rattle.std.proofs.Common.{Result, Ok, Err}
use Rattle.rules.proofs.Accepted.{made}
use Rattle.rules.proofs.Complete.{Enough, enough, numbered}
use Rattle.rules.proofs.Stack.{stack_more}

-- of an item in range with its operands the check tests the limits alone
by_limits : (c : RuleCounts) (at : ℕ) (i : Item) → InRange i → (row_of_item i).operands ≤ c.depth
    → let next = rule_counted c (row_of_item i) in
    check_item c at (row_of_item i) ≡ cond (rule_too_large next) (Err (Refusal.RuleTooLarge at)) (Ok next)
unfolding check_item bad_window
by_limits c at i r o = simp (le-ltb, r.flag, r.window, r.bound, o)

-- all items are read, or one is refused as too large
abbrev Outcome : Items → AllRead Item → Type 0
Outcome all w = (w ≡ AllRead.items all) ⊎ ((at : ℕ) × (w ≡ AllRead.refused (Refusal.RuleTooLarge at)))

outcome : (at : ℕ) (is js : Items) → Each InRange js → Enough (stack_of is) js → Outcome (is ++ js) (checked_from rule_kind bytes_of_item at is js)
unfolding rule_counts
outcome at is [] r e = inl (rw append-nil)
outcome at is (i ∷ js) r e =
    let behind = at + length (bytes_of_item i) in
    let P : Result RuleCounts Refusal → Type 0 = λ j. Outcome (is ++ i ∷ js)
    (after_checked (item_outcome j) (checked_from rule_kind bytes_of_item behind (is ++ i ∷ []) js)) in
    rw (by_limits (rule_counts is) at i r.0 e.0)
    (both_ways P (rule_too_large (rule_counted (rule_counts is) (row_of_item i))) {x = Err (Refusal.RuleTooLarge at)} (inr (at, refl))
    (rw append_assoc at (outcome behind (is ++ i ∷ []) js r.1 (rw stack_more e.1))))

-- items that make a value are one at least
some : (is : Items) (f : Formula) → stack_of is ≡ f ∷ [] → 1 ≤ length is
unfolding stack_from
some [] f e = cc
some (i ∷ is) f e = omega arith

pub read_or_large : (f : Formula) → Each InRange (postfix f)
    → (read_rule (rule_bytes (postfix f)) ≡ accepted (postfix f) f) ⊎ ((at : ℕ) × (read_rule (rule_bytes (postfix f)) ≡ refused (Refusal.RuleTooLarge at)))
unfolding read_rule stack_from
read_or_large f r =
    let is = postfix f in
    let value : stack_of is ≡ f ∷ [] = rw append-nil at (made f [] []) in
    let read = all_checked rule_kind bytes_of_item is (some is f value) (each_then InRange (Numbered rule_kind bytes_of_item) numbered is r) in
    let end = at_end (length (rule_bytes is)) in
    ⊎_elim (λ e. inl (ap end (read ∙ e) ∙ rw value)) (λ q. inr (q.0, ap end (read ∙ q.1))) (outcome 0 [] is r (rw append-nil at (enough f [] [] tt)))
