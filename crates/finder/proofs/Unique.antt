-- What `search` states allows one answer: two results that it allows of the same arguments are equal, and so are both buffers that are lent to be written.
-- `Post` is the function's own `ensures`.
use mathlib.Core.Path.{◌≡◌, sym, ap, ◌∙◌}
use mathlib.Core.Bool.{Bool, true, false}
use mathlib.Core.List.{List}
use Prim.Native.Nat.{ℕ}
use Rattle.std.proofs.Common.{Result}
use Rattle.ground.specs.declared.refusal.Refusal.{Refusal}
use Rattle.rules.specs.Formula.{Formula}
use Rattle.rules.specs.Loading.{Reading, accepted, refused, read_rule}
use Rattle.rules.specs.Meaning.{Holds}
use Rattle.emitter.specs.Translation.{code_for}
use Rattle.paths.proofs.Unique.{one_answer}
use Rattle.finder.specs.Search.{found_of, witness_after, Answers, Refuses, short_witness, RuleSays, SearchSays}
use Rattle.finder.specs.declared.search.Found.{Found}
use Rattle.finder.proofs.search.search.Reads as search

module _ (table witness : List ℕ) (r s : Result Found Refusal) (t u v w : List ℕ) where
  refuses_one : (refusal : Refusal) → Refuses refusal table witness r t v → Refuses refusal table witness s u w → (r ≡ s) × (t ≡ u) × (v ≡ w)
  refuses_one refusal p q = (p.own_answer ∙ sym q.own_answer, p.own_table ∙ sym q.own_table, p.own_witness ∙ sym q.own_witness)

  answers_one : (f : Formula) → Answers (code_for f) (Holds f) table witness r t v → Answers (code_for f) (Holds f) table witness s u w → (r ≡ s) × (t ≡ u)
      × (v ≡ w)
  answers_one f p q =
      let e = one_answer _ _ _ p.answer q.answer p.right q.right in (
        p.own_answer ∙ ap found_of e ∙ sym q.own_answer,
        p.own_table ∙ sym q.own_table,
        p.own_witness ∙ ap (λ a. witness_after a witness) e ∙ sym q.own_witness,
      )

  rule_one : (short : Bool) (f : Formula) → RuleSays short f table witness r t v → RuleSays short f table witness s u w → (r ≡ s) × (t ≡ u) × (v ≡ w)
  rule_one true f p q = refuses_one _ p q
  rule_one false f p q = answers_one f p q

  pub says_one : (read : Reading) → SearchSays read table witness r t v → SearchSays read table witness s u w → (r ≡ s) × (t ≡ u) × (v ≡ w)
  says_one (accepted is f) p q = rule_one (short_witness f witness) f p q
  says_one (refused refusal) p q = refuses_one refusal p q

pub search_unique : (κs : _) (a : _) (r s : _) (x y : _) → search.Post κs a r x → search.Post κs a s y → (r ≡ s) × (x.1.0.now ≡ y.1.0.now)
    × (x.1.1.0.now ≡ y.1.1.0.now)
search_unique κs a r s x y p q = says_one _ _ _ _ _ _ _ _ (read_rule a.0.now) p q
