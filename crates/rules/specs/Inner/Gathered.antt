-- What is gathered of the items that are read, and what it is with one item more. Contracts of inner functions cite it;
-- `load` says nothing of it.
use Rattle.std.specs.Prelude.{◌≡◌, List, [], ◌∷◌, ◌++◌, map, ℕ, max, length, Result, MatchResult}
use Rattle.ground.specs.Limits.{limits}
use Rattle.ground.specs.Stacked.{Stacked}
use Rattle.rules.specs.Formula.{horizon}
use Rattle.rules.specs.Inner.Good.{GoodItems}
use Rattle.reading.specs.InTurn.{Outcome}
use Rattle.rules.specs.Loading.{Items, rule_counts, rule_kind, stack_of, in_array}
use Rattle.rules.specs.declared.item.Item.{Item}
use Rattle.ground.specs.declared.refusal.Refusal.{Refusal}
use Rattle.rules.specs.declared.gather.Gathered.{Gathered}

-- The largest of some numbers, 0 if there are none
unfoldable pub largest_of : List ℕ → ℕ
largest_of [] = 0
largest_of (x ∷ xs) = max x (largest_of xs)

-- What is gathered is that of these items, which no test has refused
pub record Gathers (g : Gathered) (is : Items) : Type 0 where
  pub counts : g.counts ≡ rule_counts is
  pub horizons : Stacked g.horizons (map horizon (stack_of is))
  pub room : length g.horizons ≡ limits.items
  pub items : g.items ≡ in_array is
  pub good : GoodItems is

-- One item more, at a place behind these items: it is gathered with them, or the check refuses it
abbrev pub Pushes : {A : Type 0} → Items → Item → ℕ → Result A Refusal → Gathered → Type 0
Pushes is i at answer g =
    MatchResult answer (λ _. (rule_kind.check is at i ≡ Outcome.fine) × Gathers g (is ++ i ∷ []))
    (λ r. rule_kind.check is at i ≡ Outcome.bad r)
