-- What the header's accessors read of a word: 0 for an answer's part of a refusal's word, and for a refusal's part of
-- an answer's. Document 01: "Each returns number and place; buffers stay as found, save for 15"; "An answer gives met
-- or not, the length (0 if not) and the number of states"; "emitter and makers also give its length"; "the answer says
-- which of the three was refused".
use Rattle.std.specs.Prelude.{◌≡◌, Bool, cond, List, ℕ, ◌/◌, ◌%◌, ltb, eqb}
use Rattle.ground.specs.Refusals.{number_of, place_of}
use Rattle.ground.specs.declared.refusal.Refusal.{Refusal}
use Rattle.thistlecart.specs.Words.{bit8, bit16, bit24, bit32, bit40}

-- thistlecart_refusal: the number, 0 where there is none
abbrev pub refusal_told : ℕ → ℕ
refusal_told word = word % bit8

-- Whether a word is no refusal's
abbrev pub answered : ℕ → Bool
answered word = eqb (refusal_told word) 0

-- thistlecart_place
abbrev pub place_told : ℕ → ℕ
place_told word = cond (answered word) 0 (word / bit8 % bit32)

-- thistlecart_which: 1 first, 2 second, 3 the new bytes
abbrev pub which_told : ℕ → ℕ
which_told word = cond (answered word) 0 (word / bit40)

-- thistlecart_items
abbrev pub items_told : ℕ → ℕ
items_told word = cond (answered word) (word / bit8 % bit16) 0

-- thistlecart_horizon
abbrev pub horizon_told : ℕ → ℕ
horizon_told word = cond (answered word) (word / bit24) 0

-- thistlecart_met
abbrev pub met_told : ℕ → ℕ
met_told word = cond (answered word) (word / bit8 % 2) 0

-- thistlecart_length: the word of a search has its states above bit 31, and no other word with a length has a bit there
abbrev pub length_told : ℕ → ℕ
length_told word = cond (answered word) (cond (ltb word bit32) (word / bit8) (word / bit16 % bit16)) 0

-- thistlecart_states
abbrev pub states_told : ℕ → ℕ
states_told word = cond (answered word) (word / bit32) 0

-- A word tells a refusal
abbrev pub TellsRefusal : Refusal → ℕ → Type 0
TellsRefusal r word = (refusal_told word ≡ number_of r) × (place_told word ≡ place_of r)

-- The word is a refusal's
abbrev pub IsRefused : ℕ → Type 0
IsRefused word = refusal_told word ≡ 0 → ⊥

-- What the first demand asks of an entry that writes one buffer
pub record TellsAndKeeps (Tells : Type 0) (out : List ℕ) (word : ℕ) (out' : List ℕ) : Type 0 where
  -- the word tells the answer
  pub tells : Tells
  -- a refusal leaves the buffer as it was
  pub keeps : IsRefused word → out' ≡ out
