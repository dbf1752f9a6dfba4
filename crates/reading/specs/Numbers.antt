-- Numbers as bytes. Document 01: "Numbers are in groups of seven bits, lowest group first; the top bit of a byte says
-- that another follows. The shortest form only, at most two bytes (0 to 16,383)." A number is read byte by byte: where
-- the bytes end first it is cut short.
use Rattle.std.specs.Prelude.{cond, ◌||◌, List, [], ◌∷◌, ℕ, ◌+◌, ◌-◌, ◌*◌, ◌/◌, ◌%◌, ltb, leb, eqb, drop}
use Rattle.std.specs.Prelude.{Result, Ok, Err}
use Rattle.ground.specs.Limits.{limits}
use Rattle.ground.specs.declared.refusal.Refusal.{Refusal}
use Rattle.reading.specs.declared.number.Number.{Number}
use Rattle.reading.specs.declared.number.Fault.{Fault}

-- How many values a group of seven bits has; as a byte, the top bit that says that another group follows
abbrev pub group : ℕ
group = 128

-- A number that is read, and the place behind it
abbrev pub number_read : ℕ → ℕ → Result Number Fault
number_read n next = Ok (record { value = n; next = next })

-- Why an item at a place is refused for one of its numbers: 3 if the bytes end, 4 for a form that isn't allowed
abbrev pub fault_at : ℕ → Fault → Refusal
fault_at at Fault.Short = Refusal.CutShort at
fault_at at Fault.Long = Refusal.NotShortest at

-- A number whose first byte, at place `at`, is `low` with its top bit set: a second byte of 0 is not shortest, and one
-- with its top bit set is not allowed
abbrev pub second_byte : ℕ → ℕ → List ℕ → Result Number Fault
second_byte at low [] = Err Fault.Short
second_byte at low (high ∷ rest) =
    cond (eqb high 0 || leb group high) (Err Fault.Long) (number_read (low - group + group * high) (at + 2))

-- The number with which a list of bytes, from place `at` on, begins
abbrev pub first_byte : ℕ → List ℕ → Result Number Fault
first_byte at [] = Err Fault.Short
first_byte at (low ∷ rest) = cond (ltb low group) (number_read low (at + 1)) (second_byte at low rest)

-- The number at a place of some bytes
unfoldable pub number_at : List ℕ → ℕ → Result Number Fault
number_at bytes at = first_byte at (drop at bytes)

-- The bytes of a number in its shortest form; a number above the greatest has none
unfoldable pub number_bytes : ℕ → List ℕ
number_bytes n = cond (ltb n group) (n ∷ []) (cond (leb n limits.number) ((n % group + group) ∷ (n / group) ∷ []) [])
