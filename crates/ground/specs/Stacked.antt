-- A stack of numbers in an array: what stands above its top is of no account.
use Rattle.std.specs.Prelude.{◌≡◌, List, [], ◌∷◌, ℕ, length, get_or}

-- An array holds these numbers, the last one first
unfoldable pub Stacked : List ℕ → List ℕ → Type 0
Stacked array [] = Unit {0}
Stacked array (x ∷ xs) = (get_or array (length xs) 0 ≡ x) × Stacked array xs
