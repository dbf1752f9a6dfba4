-- Samples of numbers and bytes as text: document 01's counts, and bytes with digits of each kind.
use Rattle.std.specs.Prelude.{List, [], ◌∷◌, ℕ}
use Rattle.text.specs.Digits.{ascii, decimal, hex_byte}

-- The table: what is defined, and the words that it is
abbrev pub samples : List (List ℕ × List ℕ)
samples =
    (decimal 0, ascii "0")
    ∷ (decimal 7, ascii "7")
    ∷ (decimal 10, ascii "10")
    ∷ (decimal 255, ascii "255")
    ∷ (decimal 65536, ascii "65536")
    ∷ (hex_byte 0x00, ascii "00")
    ∷ (hex_byte 0x9a, ascii "9a")
    ∷ (hex_byte 0xbf, ascii "bf")
    ∷ []
