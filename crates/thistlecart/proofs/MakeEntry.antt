-- The makers, for C. A new rule is short as any accepted one, so every answer fits into the word, and the accessors read it back; an answer that leaves the
-- buffer changed is no refusal.
use mathlib.Core.Path.{◌≡◌, refl, subst, sym, ap, ◌∙◌}
use mathlib.Core.List.{List, ◌++◌}
use Prim.Native.Nat.{ℕ, ◌+◌, ◌*◌, ◌≤◌, ◌<◌}
use native.Mathlib.Omega.{arith}
use Rattle.ground.specs.Buffers.{AllBytes, too_short}
use Rattle.ground.specs.declared.refusal.Refusal.{Refusal}
use Rattle.ground.proofs.Buffers.{bytes_joined}
use Rattle.ground.proofs.Choices.{both_ways}
use Rattle.ground.proofs.Refusals.{numbered}
use Rattle.rules.specs.Loading.{Reading, accepted, refused, read_rule}
use Rattle.rules.proofs.Accepted.{accepted_rule}
use Rattle.rules.proofs.Places.{rule_place}
use Rattle.std.proofs.Common.{Ok, Err}
use Rattle.makers.specs.Making.{Made, refused_as, which_of, or_else, room_made, new_made, one_made, two_made, made_after, Makes, MakesOne, MakesTwo}
use Rattle.makers.specs.declared.make.Which.{Which}
use Rattle.thistlecart.specs.Accessors.{IsRefused, TellsAndKeeps}
use Rattle.thistlecart.specs.Inner.Make.{MadeFits}
use Rattle.thistlecart.specs.Inner.Words.{PlaceFits}
use Rattle.thistlecart.specs.Make.{made_word, TellsMade, MadeEntry, OneRuleDemand, TwoRulesDemand}
use Rattle.thistlecart.specs.Words.{bit40, refusal_word}
use Rattle.thistlecart.proofs.Accessors.{which_told_lem, length_told_lem}

-- one of three
which_small : (which : Which) → which_of which ≤ 3
which_small Which.First = omega arith
which_small Which.Second = omega arith
which_small Which.New = omega arith

-- a refusal's word, with which of the three above it, is far from overflow
pub refused_small : (which : Which) (r : Refusal) → PlaceFits r → refusal_word r + which_of which * bit40 < 5 * bit40
refused_small which r fits = omega (arith, (numbered r).1, which_small which)

-- one of a maker's three fits
else_fits : (which : Which) (rule : List ℕ) (then : Made) → AllBytes rule → MadeFits then → MadeFits (or_else which (read_rule rule) then)
else_fits which rule then small fits = go (read_rule rule) refl
  where
    go : (read : Reading) → read_rule rule ≡ read → MadeFits (or_else which read then)
    go (accepted is f) e = fits
    go (refused r) e = omega (arith, rule_place rule r small e)

-- the new bytes fit
new_fits : (new out : List ℕ) → AllBytes new → MadeFits (new_made new out)
new_fits new out small = go (read_rule new) refl
  where
    go : (read : Reading) → read_rule new ≡ read → MadeFits (or_else Which.New read (room_made new out))
    go (accepted is f) e =
        both_ways MadeFits (too_short out new) {x = refused_as Which.New Refusal.ShortOutput} (omega arith)
        (omega (arith, (accepted_rule new is f small e).short))
    go (refused r) e = omega (arith, rule_place new r small e)

-- What a maker of one rule answers fits
one_made_fits : (operator rule out : List ℕ) → AllBytes operator → AllBytes rule → MadeFits (one_made operator rule out)
one_made_fits operator rule out own small =
    else_fits Which.First rule _ small (new_fits (rule ++ operator) out (bytes_joined rule operator small own))

pub one_fits : (operator rule out : List ℕ) (made : Made) (out' : List ℕ) → AllBytes operator → AllBytes rule → MakesOne operator rule out made out'
    → MadeFits made
one_fits operator rule out made out' own small says = subst MadeFits (sym says.own_answer) (one_made_fits operator rule out own small)

-- What a maker of two rules answers fits
two_made_fits : (operator first second out : List ℕ) → AllBytes operator → AllBytes first → AllBytes second → MadeFits (two_made operator first second out)
two_made_fits operator first second out own small too =
    else_fits Which.First first _ small
    (else_fits Which.Second second _ too
    (new_fits (first ++ (second ++ operator)) out (bytes_joined first (second ++ operator) small (bytes_joined second operator too own))))

pub two_fits : (operator first second out : List ℕ) (made : Made) (out' : List ℕ) → AllBytes operator → AllBytes first → AllBytes second
    → MakesTwo operator first second out made out' → MadeFits made
two_fits operator first second out made out' own small too says =
    subst MadeFits (sym says.own_answer) (two_made_fits operator first second out own small too)

-- Its word tells it
pub made_told : (a : Made) → MadeFits a → TellsMade a (made_word a)
made_told (Ok length) fits = length_told_lem length fits
made_told (Err e) fits = which_told_lem e.refusal (which_of e.which) fits

-- What a maker says, with the word of its answer, is what its entry says
pub made_entry : {made : Made} {new out : List ℕ} {answer : Made} {out' : List ℕ} {word : ℕ} → Makes made new out answer out' → word ≡ made_word answer
    → MadeEntry made new out word out'
made_entry says own = record { own_word = own ∙ ap made_word says.own_answer; own_out = rw says.own_answer at says.own_out }

-- a refusal leaves the buffer as it was
maker_stays : (a : Made) (word : ℕ) (new out : List ℕ) → TellsMade a word → IsRefused word → made_after a new out ≡ out
maker_stays (Ok n) word new out told no_answer = absurd (no_answer told.0)
maker_stays (Err e) word new out told no_answer = refl

maker_demand : (made : Made) (new out : List ℕ) → MadeFits made → (word : ℕ) (out' : List ℕ) → MadeEntry made new out word out'
    → TellsAndKeeps (TellsMade made word) out word out'
maker_demand made new out fits word out' says =
    let told : TellsMade made word = rw says.own_word (made_told made fits) in
    record { tells = told; keeps = λ no_answer. says.own_out ∙ maker_stays made word new out told no_answer }

-- Their parts of the first demand
pub one_rule_demand : OneRuleDemand
one_rule_demand operator rule out own small =
    maker_demand (one_made operator rule out) (rule ++ operator) out (one_made_fits operator rule out own small)

pub two_rules_demand : TwoRulesDemand
two_rules_demand operator first second out own small too =
    maker_demand (two_made operator first second out) (first ++ (second ++ operator)) out (two_made_fits operator first second out own small too)
