-- What buffers hold, and answers in them. Document 01: "16 output buffer shorter than the answer" and "An entry that
-- writes an answer starts at the buffer's first byte, and the bytes behind the answer stay".
use Rattle.std.specs.Prelude.{Bool, true, false, cond, List, ◌++◌, ℕ, ◌+◌, ◌<◌, ltb, leb, length, get_or, take, drop}

-- How many values a byte has
abbrev pub byte_values : ℕ
byte_values = 256

-- Every element is a byte, as in every lent buffer of bytes
abbrev pub AllBytes : List ℕ → Type 0
AllBytes bytes = (i : ℕ) → get_or bytes i 0 < byte_values

-- A bit as a byte: 1 or 0
abbrev pub byte_of : Bool → ℕ
byte_of true = 1
byte_of false = 0

-- An output buffer that is shorter than the answer
abbrev pub too_short : List ℕ → List ℕ → Bool
too_short out answer = ltb (length out) (length answer)

-- Elements over the first ones of a list; the rest stays as it is
abbrev pub over : {A : Type 0} → List A → List A → List A
over own all = own ++ drop (length own) all

-- Whether some bytes fit into a buffer from place `at` on
abbrev pub fits : List ℕ → ℕ → List ℕ → Bool
fits buffer at bytes = leb (at + length bytes) (length buffer)

-- A buffer after some bytes are written into it from place `at` on: unchanged where they don't fit
unfoldable pub written : List ℕ → ℕ → List ℕ → List ℕ
written buffer at bytes =
    cond (fits buffer at bytes) (take at buffer ++ bytes ++ drop (at + length bytes) buffer) buffer

-- The place behind what was written
unfoldable pub place_after : List ℕ → ℕ → List ℕ → ℕ
place_after buffer at bytes = cond (fits buffer at bytes) (at + length bytes) at
