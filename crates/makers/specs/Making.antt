-- What the makers answer and write. Document 01: "Makers: negate appends 20; both and either append 21 or 22 after the
-- first and then the second rule; next appends `33 01 01`", and "Makers: first rule, second rule, then the new bytes as
-- a rule, then 16; the answer says which of the three was refused (for 16, the new bytes)".
use Rattle.std.specs.Prelude.{◌≡◌, cond, Result, Ok, Err, List, [], ◌∷◌, ◌++◌, ℕ, ◌+◌, ◌*◌, length}
use Rattle.ground.specs.Buffers.{too_short, over}
use Rattle.ground.specs.declared.refusal.Refusal.{Refusal}
use Rattle.ground.specs.Limits.{most_rule_bytes}
use Rattle.rules.specs.Loading.{Reading, accepted, refused, read_rule}
use Rattle.makers.specs.declared.make.Which.{Which}
use Rattle.makers.specs.declared.make.Refused.{Refused}

-- What negate appends
abbrev pub negation : List ℕ
negation = 0x20 ∷ []

-- What both appends
abbrev pub conjunction : List ℕ
conjunction = 0x21 ∷ []

-- What either appends
abbrev pub disjunction : List ℕ
disjunction = 0x22 ∷ []

-- What next appends
abbrev pub next_frame : List ℕ
next_frame = 0x33 ∷ 0x01 ∷ 0x01 ∷ []

-- The longest of them has so many bytes
abbrev pub most_operator : ℕ
most_operator = length next_frame

-- A bound on the new bytes: two rules and an operator
abbrev pub most_new : ℕ
most_new = 2 * most_rule_bytes + most_operator

-- Which of the three, numbered in that order: 1 first, 2 second, 3 the new bytes
abbrev pub which_of : Which → ℕ
which_of Which.First = 1
which_of Which.Second = 2
which_of Which.New = 3

-- What a maker answers: the length of the new rule, or which of the three is refused, and how
abbrev pub Made : Type 0
Made = Result ℕ Refused

-- One of the three is refused
abbrev pub refused_as : {A : Type 0} → Which → Refusal → Result A Refused
refused_as which r = Err (record { which = which; refusal = r })

-- One of the three as a rule: its refusal, or what comes after it
abbrev pub or_else : {A : Type 0} → Which → Reading → Result A Refused → Result A Refused
or_else which (accepted is f) then = then
or_else which (refused r) then = refused_as which r

-- The room for new bytes that are a rule: 16, or their length
abbrev pub room_made : List ℕ → List ℕ → Made
room_made new out = cond (too_short out new) (refused_as Which.New Refusal.ShortOutput) (Ok (length new))

-- The new bytes: as a rule, then 16, then their length
abbrev pub new_made : List ℕ → List ℕ → Made
new_made new out = or_else Which.New (read_rule new) (room_made new out)

-- What a maker of one rule answers
abbrev pub one_made : List ℕ → List ℕ → List ℕ → Made
one_made operator rule out = or_else Which.First (read_rule rule) (new_made (rule ++ operator) out)

-- What a maker of two rules answers
abbrev pub two_made : List ℕ → List ℕ → List ℕ → List ℕ → Made
two_made operator first second out =
    or_else Which.First (read_rule first)
    (or_else Which.Second (read_rule second) (new_made (first ++ (second ++ operator)) out))

-- What a maker leaves in the output buffer, by its answer
abbrev pub made_after : Made → List ℕ → List ℕ → List ℕ
made_after (Ok n) new out = over new out
made_after (Err e) new out = out

-- What is said of an answer and of the buffer that it leaves
pub record Makes (made : Made) (new out : List ℕ) (answer : Made) (out' : List ℕ) : Type 0 where
  -- the answer is this one
  pub own_answer : answer ≡ made
  -- the buffer is what it leaves there of these new bytes
  pub own_out : out' ≡ made_after answer new out

-- What is said of new bytes
abbrev pub MakesNew : List ℕ → List ℕ → Made → List ℕ → Type 0
MakesNew new out = Makes (new_made new out) new out

-- What a maker of one rule says
abbrev pub MakesOne : List ℕ → List ℕ → List ℕ → Made → List ℕ → Type 0
MakesOne operator rule out = Makes (one_made operator rule out) (rule ++ operator) out

-- What a maker of two rules says
abbrev pub MakesTwo : List ℕ → List ℕ → List ℕ → List ℕ → Made → List ℕ → Type 0
MakesTwo operator first second out =
    Makes (two_made operator first second out) (first ++ (second ++ operator)) out
