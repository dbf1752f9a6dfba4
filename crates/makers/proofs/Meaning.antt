-- What made rules mean. The new bytes are those of the items of a formula, as the rules' bytes are and the operator's; such bytes are read as that formula
-- or refused, so where the new bytes are a rule, it is this formula.
use mathlib.Core.Path.{◌≡◌, refl, sym, ap, ◌∙◌}
use mathlib.Core.Bool.{Bool, true, false, false≢true}
use mathlib.Core.List.{List, [], ◌∷◌, ◌++◌, append-nil}
use mathlib.Core.Logic.{◌⊎◌, ⊎_elim}
use Prim.Native.Nat.{ℕ, ◌+◌, ◌<◌, max}
use native.Mathlib.Omega.{arith}
use lib.ListN.{length, drop}
use Rattle.ground.specs.Buffers.{AllBytes, too_short}
use Rattle.ground.specs.Each.{Each}
use Rattle.ground.specs.Frames.{Clip}
use Rattle.reading.specs.InTurn.{bytes_of_all}
use Rattle.reading.specs.Numbers.{number_bytes}
use Rattle.ground.proofs.Buffers.{bytes_joined}
use Rattle.ground.proofs.Choices.{else_taken}
use Rattle.ground.proofs.Each.{each_joined}
use Rattle.reading.proofs.InTurn.{bytes_append}
use Rattle.rules.specs.Formula.{Formula, Not, And, Or, Globally, horizon}
use Rattle.rules.specs.Accepted.{InRange}
use Rattle.rules.specs.Items.{postfix, bytes_of_item, rule_bytes}
use Rattle.rules.specs.Loading.{Items, Reading, accepted, refused, read_rule}
use Rattle.rules.specs.Meaning.{Holds, holds}
use Rattle.rules.specs.declared.item.Item.{Item}
use Rattle.rules.proofs.Accepted.{accepted_rule}
use Rattle.rules.proofs.Agreement.{agreement}
use Rattle.rules.proofs.TooLarge.{read_or_large}
use Rattle.makers.specs.Making.{negation, conjunction, disjunction, next_frame, or_else, room_made, new_made, one_made, two_made}
use Rattle.makers.specs.Meaning.{Means}
use Rattle.std.specs.Prelude.{Ok}
use Rattle.makers.specs.declared.make.Which.{Which}
use Rattle.makers.proofs.Making.{negation_bytes, conjunction_bytes, disjunction_bytes, next_bytes}

-- Bytes that are those of items in range
pub record Spells (bytes : List ℕ) (is : Items) : Type 0 where
  pub small : AllBytes bytes
  pub own : bytes ≡ rule_bytes is
  pub ranges : Each InRange is

-- those of two lists of items, one behind the other
joined : {a b : List ℕ} {is js : Items} → Spells a is → Spells b js → Spells (a ++ b) (is ++ js)
joined {a} {b} {is} {js} s t =
    record {
      small = bytes_joined a b s.small t.small;
      own = rw (s.own, t.own, bytes_append);
      ranges = each_joined InRange is js s.ranges t.ranges;
    }

-- those of an operator
operator_spells : (i : Item) → AllBytes (bytes_of_item i) → InRange i → Spells (bytes_of_item i) (i ∷ [])
unfolding bytes_of_all
operator_spells i small range = record { small = small; own = rw append-nil; ranges = (range, tt) }

-- those of a rule
rule_spells : (rule : List ℕ) (is : Items) (f : Formula) → AllBytes rule → read_rule rule ≡ accepted is f → Spells rule (postfix f)
rule_spells rule is f small e =
    let r = accepted_rule rule is f small e in
    record { small = small; own = r.own_bytes ∙ ap rule_bytes r.own_items; ranges = rw r.own_items at r.ranges }

-- what the makers of one rule spell, and those of two
module _ (rule : List ℕ) (is : Items) (f : Formula) (small : AllBytes rule) (read : read_rule rule ≡ accepted is f) where
  pub negate_spells : Spells (rule ++ negation) (postfix (Not f))
  unfolding bytes_of_item postfix
  negate_spells = joined (rule_spells rule is f small read) (operator_spells Item.Not negation_bytes (omega arith))

  pub next_spells : Spells (rule ++ next_frame) (postfix (Globally 1 1 f))
  unfolding bytes_of_item number_bytes postfix
  next_spells =
      joined (rule_spells rule is f small read)
      (operator_spells (Item.Globally 1 1) next_bytes (omega arith))

module _ (first second : List ℕ) (is js : Items) (f g : Formula) (small : AllBytes first) (bytes : AllBytes second)
    (read : read_rule first ≡ accepted is f) (also : read_rule second ≡ accepted js g) where
  two_spell : (i : Item) → AllBytes (bytes_of_item i) → InRange i
      → Spells (first ++ (second ++ bytes_of_item i)) (postfix f ++ (postfix g ++ i ∷ []))
  two_spell i b r = joined (rule_spells first is f small read) (joined (rule_spells second js g bytes also) (operator_spells i b r))

  pub both_spell : Spells (first ++ (second ++ conjunction)) (postfix (And f g))
  unfolding bytes_of_item postfix
  both_spell = two_spell Item.And conjunction_bytes (omega arith)

  pub either_spell : Spells (first ++ (second ++ disjunction)) (postfix (Or f g))
  unfolding bytes_of_item postfix
  either_spell = two_spell Item.Or disjunction_bytes (omega arith)

-- a maker that answers a length has read the new bytes as a rule
new_read : (new out : List ℕ) (n : ℕ) → new_made new out ≡ Ok n
    → (n ≡ length new) × (is : Items) × (f : Formula) × (read_rule new ≡ accepted is f)
new_read new out n e = go (read_rule new) refl e
  where
    go : (read : Reading) → read_rule new ≡ read → or_else Which.New read (room_made new out) ≡ Ok n
        → (n ≡ length new) × (is : Items) × (f : Formula) × (read_rule new ≡ accepted is f)
    go (accepted is f) q e =
        let (fits, same) = else_taken (too_short out new) (λ d. cc) e in
        (cc, is, f, q)
    go (refused r) q e = cc

-- and that rule is the formula whose items they spell: such bytes are read as it, or they are refused
new_means : (h : Formula) (new out : List ℕ) (n : ℕ) → Spells new (postfix h) → new_made new out ≡ Ok n
    → (n ≡ length new) × Means new (Holds h) (horizon h)
new_means h new out n s e =
    let (own, is, f, read) = new_read new out n e in
    let spelt : read_rule (rule_bytes (postfix h)) ≡ accepted is f = ap read_rule (sym s.own) ∙ read in
    ⊎_elim
    (λ q. (
      own,
      record { items = postfix h; formula = h; read = ap read_rule s.own ∙ q; holds = λ c x. x; held = λ c x. x; horizon = refl },
    ))
    (λ q. cc q.1)
    (read_or_large h s.ranges)

-- The four makers

module _ (rule out : List ℕ) (is : Items) (f : Formula) (n : ℕ) (small : AllBytes rule) (read : read_rule rule ≡ accepted is f) where
  pub negate_means : one_made negation rule out ≡ Ok n
      → (n ≡ length (rule ++ negation)) × Means (rule ++ negation) (λ c. Holds f c → ⊥) (horizon f)
  unfolding Holds horizon
  negate_means e = new_means (Not f) (rule ++ negation) out n (negate_spells rule is f small read) (rw read at e)

  pub next_means : one_made next_frame rule out ≡ Ok n
      → (n ≡ length (rule ++ next_frame)) × Means (rule ++ next_frame) (Holds (Globally 1 1 f)) (1 + horizon f)
  unfolding horizon
  next_means e = new_means (Globally 1 1 f) (rule ++ next_frame) out n (next_spells rule is f small read) (rw read at e)

module _ (first second out : List ℕ) (is js : Items) (f g : Formula) (n : ℕ) (small : AllBytes first) (bytes : AllBytes second)
    (read : read_rule first ≡ accepted is f) (also : read_rule second ≡ accepted js g) where
  pub both_means : two_made conjunction first second out ≡ Ok n
      → (n ≡ length (first ++ (second ++ conjunction)))
      × Means (first ++ (second ++ conjunction)) (λ c. Holds f c × Holds g c) (max (horizon f) (horizon g))
  unfolding Holds horizon
  both_means e =
      let spelt = both_spell first second is js f g small bytes read also in
      new_means (And f g) (first ++ (second ++ conjunction)) out n spelt (rw (read, also) at e)

  pub either_means : two_made disjunction first second out ≡ Ok n
      → (n ≡ length (first ++ (second ++ disjunction)))
      × Means (first ++ (second ++ disjunction)) (λ c. Holds f c ⊎ Holds g c) (max (horizon f) (horizon g))
  unfolding Holds horizon
  either_means e =
      let spelt = either_spell first second is js f g small bytes read also in
      new_means (Or f g) (first ++ (second ++ disjunction)) out n spelt (rw (read, also) at e)

-- what does not fail to hold holds, as a test decides it
stable : (f : Formula) (c : Clip) → ((Holds f c → ⊥) → ⊥) → Holds f c
stable f c twice = go (holds f c) refl
  where
    go : (b : Bool) → holds f c ≡ b → Holds f c
    go true e = (agreement f c).0 e
    go false e = absurd (twice (λ h. false≢true (sym e ∙ (agreement f c).1 h)))

-- `next` says: where there is a next frame, the rule holds from there on
pub next_says : (f : Formula) (c : Clip)
    → (Holds (Globally 1 1 f) c → 1 < length c → Holds f (drop 1 c)) × ((1 < length c → Holds f (drop 1 c)) → Holds (Globally 1 1 f) c)
unfolding Holds
next_says f c = (
  (λ k h. stable f (drop 1 c) (λ fails.
      k (record { longer = h; place = 1; from = omega arith; upto = omega arith; inside = h; right = fails; left = λ j a b x. x }))),
  (λ k r. let one : r.place ≡ 1 = omega arith in (rw one at r.right) (k r.longer)),
)
