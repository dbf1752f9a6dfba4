-- What is known of a rule that was loaded: its items stand in its array, in order, and its bytes are a rule.
use mathlib.Core.Path.{◌≡◌, refl, ◌∙◌}
use mathlib.Core.List.{List}
use Prim.Native.Nat.{ℕ}
use native.Mathlib.Omega.{arith}
use lib.ListN.{length}
use Rattle.std.proofs.lemmas.List.{take-append-le}
use lib.Seq.{take-length}
use Rattle.ground.specs.declared.refusal.Refusal.{Refusal}
use Rattle.rules.specs.Accepted.{IsRule}
use Rattle.rules.specs.Formula.{Formula}
use Rattle.rules.specs.Loaded.{LoadedFrom, items_in, loaded_in}
use Rattle.rules.specs.Loading.{Items, Reading, accepted, refused, in_array, rule_kept, loaded_of, read_rule, rule_of}
use Rattle.rules.specs.declared.load.Rule.{Rule}
use Rattle.rules.proofs.Accepted.{accepted_rule}
use Rattle.std.proofs.Common.{Ok, Err}

-- The items of a rule that is accepted
module _ (is : Items) (f : Formula) where
  pub items_back : items_in (rule_kept is f) (length is) ≡ is
  unfolding items_in rule_kept in_array
  items_back = take-append-le (length is) is _ (omega arith) ∙ take-length is

-- a rule that is loaded, and so accepted
pub record Accepts (bytes : List ℕ) (rule : Rule) : Type 0 where
  pub items : Items
  pub formula : Formula
  pub read : read_rule bytes ≡ accepted items formula
  pub is_rule : IsRule bytes items formula
  pub own : rule ≡ rule_kept items formula

pub accepts : (bytes : List ℕ) (rule : Rule) → LoadedFrom bytes rule → Accepts bytes rule
accepts bytes rule l = go (read_rule bytes) refl l.own
  where
    go : (read : Reading) → read_rule bytes ≡ read → Ok rule ≡ rule_of read → Accepts bytes rule
    go (accepted is f) e own =
        record { items = is; formula = f; read = e; is_rule = accepted_rule bytes is f l.small e; own = cc }
    go (refused r) e own = cc

-- or it is refused
pub rule_refused : (read : Reading) (r : Refusal) → Err r ≡ rule_of read → read ≡ refused r
rule_refused (accepted is f) r e = cc
rule_refused (refused s) r e = cc

-- what is told of a rule that was loaded is what loading tells
pub told : (read : Reading) (rule : Rule) → Ok rule ≡ rule_of read → Ok (loaded_in rule) ≡ loaded_of read
unfolding loaded_in rule_kept
told (accepted is f) rule e = let own : rule ≡ rule_kept is f = cc in rw own
told (refused r) rule e = cc
