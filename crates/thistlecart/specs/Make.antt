-- The makers, for C: the word of the answer and what it tells, the entries' statements, and their parts of the first
-- demand. Document 01: "Makers: first rule, second rule, then the new bytes as a rule, then 16; the answer says which
-- of the three was refused"; "emitter and makers also give its length". The word has the length in bits 8 and up; a
-- refusal's has which of the three in bits 40 and up.
use Rattle.std.specs.Prelude.{◌≡◌, Ok, Err, List, ◌++◌, ℕ, ◌+◌, ◌*◌}
use Rattle.ground.specs.Buffers.{AllBytes}
use Rattle.makers.specs.Making.{Made, which_of, one_made, two_made, made_after}
use Rattle.thistlecart.specs.Accessors.{refusal_told, which_told, length_told, TellsRefusal, TellsAndKeeps}
use Rattle.thistlecart.specs.Words.{bit8, bit40, refusal_word}

-- The word of what a maker answers
abbrev pub made_word : Made → ℕ
made_word (Ok length) = length * bit8
made_word (Err e) = refusal_word e.refusal + which_of e.which * bit40

-- A word tells what a maker answers
abbrev pub TellsMade : Made → ℕ → Type 0
TellsMade (Ok length) word = (refusal_told word ≡ 0) × (length_told word ≡ length)
TellsMade (Err e) word = TellsRefusal e.refusal word × (which_told word ≡ which_of e.which)

-- What a maker says, by what it answers and by the new bytes
pub record MadeEntry (made : Made) (new out : List ℕ) (word : ℕ) (out' : List ℕ) : Type 0 where
  -- the word is that of the answer
  pub own_word : word ≡ made_word made
  -- the buffer is what the answer leaves there
  pub own_out : out' ≡ made_after made new out

-- What `thistlecart_negate` and `thistlecart_next` say, by the operator that they append
abbrev pub OneRuleEntry : List ℕ → List ℕ → List ℕ → ℕ → List ℕ → Type 0
OneRuleEntry operator rule out = MadeEntry (one_made operator rule out) (rule ++ operator) out

-- What `thistlecart_both` and `thistlecart_either` say, by the operator that they append
abbrev pub TwoRulesEntry : List ℕ → List ℕ → List ℕ → List ℕ → ℕ → List ℕ → Type 0
TwoRulesEntry operator first second out =
    MadeEntry (two_made operator first second out) (first ++ (second ++ operator)) out

-- A maker of one rule's part of the first demand: the word tells what it answers, and a refusal leaves the buffer
abbrev pub OneRuleDemand : Type 0
OneRuleDemand =
    (operator rule out : List ℕ) → AllBytes operator → AllBytes rule → (word : ℕ) (out' : List ℕ)
    → OneRuleEntry operator rule out word out'
    → TellsAndKeeps (TellsMade (one_made operator rule out) word) out word out'

-- A maker of two rules' part of the first demand: the same
abbrev pub TwoRulesDemand : Type 0
TwoRulesDemand =
    (operator first second out : List ℕ) → AllBytes operator → AllBytes first → AllBytes second
    → (word : ℕ) (out' : List ℕ) → TwoRulesEntry operator first second out word out'
    → TellsAndKeeps (TellsMade (two_made operator first second out) word) out word out'
