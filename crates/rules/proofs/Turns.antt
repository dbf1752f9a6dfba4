-- Loading a rule turn by turn. `RuleTurn` says where it stands: what is gathered is that of the items read, and the rule from here on, after them, is the rule.
-- Each way out of a turn is a law: one item more, the end, or a refusal.
use mathlib.Core.Path.{◌≡◌, refl, sym, ap}
use mathlib.Core.List.{List, [], ◌∷◌, ◌++◌}
use Prim.Native.Nat.{ℕ, ◌<◌}
use lib.ListN.{length}
use Rattle.reading.specs.InTurn.{Outcome}
use Rattle.reading.specs.Items.{item_at, item_read}
use Rattle.reading.specs.declared.item.Table.{Table}
use Rattle.ground.specs.declared.refusal.Refusal.{Refusal}
use Rattle.reading.proofs.InTurn as in-turn
use Rattle.rules.specs.Loading.{Items, stack_of, rule_kind, one_value, at_end, read_rule, rule_of}
use Rattle.std.proofs.Common.{None, Ok, Err}
use Rattle.rules.specs.Inner.Gathered.{Gathers}
use Rattle.rules.specs.declared.gather.Gathered.{Gathered}

pub record RuleTurn (bytes : List ℕ) (g : Gathered) (at : ℕ) : Type 0 where
  pub items : Items
  pub turn : in-turn.Turn rule_kind bytes at items
  pub gathers : Gathers g items

-- no byte is refused
pub empty_rule : (bytes : List ℕ) → length bytes ≡ 0 → Err Refusal.Empty ≡ rule_of (read_rule bytes)
unfolding read_rule
empty_rule bytes h = ap (λ w. rule_of (at_end (length bytes) w)) (in-turn.none_refused rule_kind bytes h)

pub turn_first : (bytes : List ℕ) (g : Gathered) → (length bytes ≡ 0 → ⊥) → Gathers g [] → RuleTurn bytes g 0
turn_first bytes g h f = record { items = []; turn = in-turn.turn_first rule_kind bytes h; gathers = f }

module _ (bytes : List ℕ) (g : Gathered) (at : ℕ) (t : RuleTurn bytes g at) where
  pub turn_end : Ok None ≡ item_at Table.Rule bytes at → one_value (length bytes) t.items (stack_of t.items) ≡ read_rule bytes
  unfolding read_rule
  turn_end e = ap (at_end (length bytes)) (in-turn.turn_end rule_kind bytes at t.items t.turn e)

  pub turn_refused : (r : Refusal) → Err r ≡ item_at Table.Rule bytes at → Err r ≡ rule_of (read_rule bytes)
  unfolding read_rule
  turn_refused r e = ap (λ w. rule_of (at_end (length bytes) w)) (in-turn.turn_refused rule_kind bytes at t.items t.turn r e)

  module _ (code i j k next : ℕ) (read : item_read code i j k next ≡ item_at Table.Rule bytes at) where
    pub turn_checked : (r : Refusal) → rule_kind.check t.items at (rule_kind.make code i j k) ≡ Outcome.bad r → Err r ≡ rule_of (read_rule bytes)
    unfolding read_rule
    turn_checked r e =
        ap (λ w. rule_of (at_end (length bytes) w)) (in-turn.turn_checked rule_kind bytes at t.items t.turn code i j k next read _ refl r (sym e))

    pub turn_more : (h : Gathered) → rule_kind.check t.items at (rule_kind.make code i j k) ≡ Outcome.fine → at < next
        → Gathers h (t.items ++ rule_kind.make code i j k ∷ []) → RuleTurn bytes h next
    turn_more h e on f =
        record {
          items = t.items ++ rule_kind.make code i j k ∷ [];
          turn = in-turn.turn_more rule_kind bytes at t.items t.turn code i j k next read _ refl (sym e) on;
          gathers = f;
        }
