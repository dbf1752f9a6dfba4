-- An item that is not refused has passed each test: of the choices in turn between a refusal and the rest, none took the refusal.
use mathlib.Core.Path.{◌≡◌}
use mathlib.Core.Bool.{◌||◌}
use Prim.Native.Nat.{ℕ}
use borrow.Author.Tests.{ltb-false}
use lib.Dec.{ltb}
use Rattle.ground.specs.Limits.{limits}
use Rattle.ground.specs.declared.refusal.Refusal.{Refusal}
use Rattle.ground.proofs.Choices.{else_taken, neither}
use Rattle.rules.specs.Inner.Good.{FineItem}
use Rattle.rules.specs.Items.{row_of_item}
use Rattle.rules.specs.Loading.{check_item, bad_window, rule_too_large, rule_counted}
use Rattle.rules.specs.declared.item.Item.{Item}
use Rattle.rules.specs.declared.check.RuleCounts.{RuleCounts}
use Rattle.std.proofs.Common.{Ok, Err}

apart : {r : Refusal} {d : RuleCounts} → Err r ≡ Ok d → ⊥
apart e = cc

pub fine : (c : RuleCounts) (at : ℕ) (i : Item) (d : RuleCounts) → check_item c at (row_of_item i) ≡ Ok d → FineItem c i d
unfolding check_item bad_window rule_too_large
fine c at i d e =
    let row = row_of_item i in
    let next = rule_counted c row in
    let (flag, past5) = else_taken (ltb limits.flag row.flag) apart e in
    let (window, past6) = else_taken (bad_window row.lower row.upper) apart past5 in
    let (operands, past7) = else_taken (ltb c.depth row.operands) apart past6 in
    let (large, next-is) = else_taken (rule_too_large next) apart past7 in
    let own : d ≡ next = cc in
    let bounds = neither (ltb row.upper row.lower) (ltb limits.bound row.upper) window in
    let items = neither (ltb limits.items next.items) (ltb limits.timed next.timed || ltb limits.lower next.lower) large in
    let others = neither (ltb limits.timed next.timed) (ltb limits.lower next.lower) items.1 in
    record {
      ranges =
          record { flag = ltb-false _ _ flag; window = ltb-false _ _ bounds.0; bound = ltb-false _ _ bounds.1 };
      operands = ltb-false _ _ operands;
      counts = own;
      items = rw own (ltb-false _ _ items.0);
      timed = rw own (ltb-false _ _ others.0);
      lower = rw own (ltb-false _ _ others.1);
    }
