-- What `write_standing` states allows one answer: two lengths that it allows of the same arguments are equal, and so are the text, the table and the witness
-- buffer after it. The search says one thing of a rule, and the text is a function of what it says. `Post` is the function's own `ensures`.
use mathlib.Core.Path.{◌≡◌, sym, ap, ◌∙◌}
use mathlib.Core.List.{List}
use Prim.Native.Nat.{ℕ}
use lib.ListN.{length}
use Rattle.ground.specs.Buffers.{over}
use Rattle.rules.specs.Loading.{read_rule}
use Rattle.finder.proofs.Unique.{says_one}
use Rattle.standing.specs.Standing.{standing_text, Prints}
use Rattle.standing.proofs.standing.write_standing.Reads as write-standing

stands_one : (rule table witness text : List ℕ) (m n : ℕ) (t u v w x y : List ℕ) → Prints rule table witness text m t v x
    → Prints rule table witness text n u w y
    → (m ≡ n) × (t ≡ u) × (v ≡ w) × (x ≡ y)
stands_one rule table witness text m n t u v w x y p q =
    let (found, tables, witnesses) = says_one table witness p.found q.found t u v w (read_rule rule) p.says q.says in
    let texts : standing_text (length rule) (read_rule rule) p.found v ≡ standing_text (length rule) (read_rule rule) q.found w = rw (found, witnesses) in
    (p.own_length ∙ ap length texts ∙ sym q.own_length, tables, witnesses, p.own_text ∙ ap (λ s. over s text) texts ∙ sym q.own_text)

pub standing_unique : (κs : _) (a : _) (r s : _) (x y : _) → write-standing.Post κs a r x → write-standing.Post κs a s y
    → (r ≡ s) × (x.1.0.now ≡ y.1.0.now) × (x.1.1.0.now ≡ y.1.1.0.now) × (x.1.1.1.0.now ≡ y.1.1.1.0.now)
standing_unique κs a r s x y p q = stands_one _ _ _ _ _ _ _ _ _ _ _ _ p q
