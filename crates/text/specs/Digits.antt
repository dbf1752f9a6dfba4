-- Numbers and words as text. Document 01, "Program": "input bytes and items; horizon; length and states; the frames,
-- two lower-case hex digits each".
use Rattle.std.specs.Prelude.{cond, List, [], ◌∷◌, ◌++◌, ℕ, zero, suc, ◌+◌, ◌/◌, ◌%◌, ltb}
use Prim.Native.Char.{code}
use Prim.Native.String.{String, [] as []ˢ, ◌∷◌ as ◌∷ˢ◌}

-- Words as bytes
unfoldable pub ascii : String → List ℕ
ascii []ˢ = []
ascii (c ∷ˢ s) = code c ∷ ascii s

-- A digit: `0` to `9`, then `a` to `f`
abbrev pub digit : ℕ → ℕ
digit d = cond (ltb d 10) (48 + d) (87 + d)

-- The digits of a number, the most significant first; as many turns as it has digits suffice
unfoldable pub digits_in : ℕ → ℕ → List ℕ
digits_in zero n = []
digits_in (suc turns) n = cond (ltb n 10) [] (digits_in turns (n / 10)) ++ digit (n % 10) ∷ []

-- A number in decimal
unfoldable pub decimal : ℕ → List ℕ
decimal n = digits_in (n + 1) n

-- A byte as two hex digits
abbrev pub hex_byte : ℕ → List ℕ
hex_byte byte = digit (byte / 16) ∷ digit (byte % 16) ∷ []
