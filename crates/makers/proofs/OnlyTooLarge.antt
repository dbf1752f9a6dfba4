-- New bytes made of accepted rules are refused by 8 alone, as they are those of a formula's items.
use mathlib.Core.Path.{◌≡◌, ap}
use mathlib.Core.List.{List, ◌++◌}
use mathlib.Core.Logic.{⊎_elim}
use Prim.Native.Nat.{ℕ}
use Rattle.ground.specs.Buffers.{AllBytes}
use Rattle.ground.specs.Refusals.{number_of}
use Rattle.ground.specs.declared.refusal.Refusal.{Refusal}
use Rattle.rules.specs.Formula.{Formula, Not, And, Or, Globally}
use Rattle.rules.specs.Items.{postfix}
use Rattle.rules.specs.Loading.{Items, accepted, refused, read_rule}
use Rattle.rules.proofs.TooLarge.{read_or_large}
use Rattle.makers.specs.Making.{negation, conjunction, disjunction, next_frame}
use Rattle.makers.proofs.Meaning.{Spells, negate_spells, next_spells, both_spell, either_spell}

new_refused : (h : Formula) (new : List ℕ) (r : Refusal) → Spells new (postfix h) → read_rule new ≡ refused r → number_of r ≡ 8
new_refused h new r s e =
    let own = rw s.own at e in
    ⊎_elim
    (λ q. cc)
    (λ q. let large : r ≡ Refusal.RuleTooLarge q.0 = cc q.1 in ap number_of large)
    (read_or_large h s.ranges)

module _ (rule : List ℕ) (is : Items) (f : Formula) (r : Refusal) (small : AllBytes rule) (read : read_rule rule ≡ accepted is f) where
  pub negate_refused : read_rule (rule ++ negation) ≡ refused r → number_of r ≡ 8
  negate_refused e = new_refused (Not f) (rule ++ negation) r (negate_spells rule is f small read) e

  pub next_refused : read_rule (rule ++ next_frame) ≡ refused r → number_of r ≡ 8
  next_refused e = new_refused (Globally 1 1 f) (rule ++ next_frame) r (next_spells rule is f small read) e

module _ (first second : List ℕ) (is js : Items) (f g : Formula) (r : Refusal) (small : AllBytes first) (bytes : AllBytes second)
    (read : read_rule first ≡ accepted is f) (also : read_rule second ≡ accepted js g) where
  pub both_refused : read_rule (first ++ (second ++ conjunction)) ≡ refused r → number_of r ≡ 8
  both_refused e = new_refused (And f g) (first ++ (second ++ conjunction)) r (both_spell first second is js f g small bytes read also) e

  pub either_refused : read_rule (first ++ (second ++ disjunction)) ≡ refused r → number_of r ≡ 8
  either_refused e = new_refused (Or f g) (first ++ (second ++ disjunction)) r (either_spell first second is js f g small bytes read also) e
