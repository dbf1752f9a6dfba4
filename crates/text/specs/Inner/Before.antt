-- Bytes that are written before others: a number's first digits are written only if its last ones fit too.
use Rattle.std.specs.Prelude.{◌≡◌, List, ℕ, ◌+◌, ◌≤◌, ◌<◌, length, Option, MatchOption}
use Rattle.text.specs.Inner.Writing.{Puts}

-- Bytes are written from a place on if so many more fit behind them, and the place behind them is answered; else
-- nothing is
abbrev pub WrittenBefore : List ℕ → ℕ → List ℕ → ℕ → List ℕ → Option ℕ → Type 0
WrittenBefore text at bytes more text' end =
    MatchOption end ((length text < at + (length bytes + more)) × (text' ≡ text))
    (λ place. (at + (length bytes + more) ≤ length text) × Puts text at bytes text' place)
