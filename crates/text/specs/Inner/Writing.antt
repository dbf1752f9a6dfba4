-- Bytes written where there is room for them.
use Rattle.std.specs.Prelude.{◌≡◌, List, ℕ, ◌+◌, ◌≤◌, length}
use Rattle.ground.specs.Buffers.{written, place_after}

-- There is room for bytes from a place on
abbrev pub Room : List ℕ → ℕ → List ℕ → Type 0
Room text at bytes = at + length bytes ≤ length text

-- Bytes are written from a place on, and the place behind them is answered, as by `write_bytes`
abbrev pub Puts : List ℕ → ℕ → List ℕ → List ℕ → ℕ → Type 0
Puts text at bytes text' end = (text' ≡ written text at bytes) × (end ≡ place_after text at bytes)
