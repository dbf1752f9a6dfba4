-- Text behind text. Bytes that are written where there is room for them, and more bytes behind these, are as if written at once.
use mathlib.Core.List.{List, ◌++◌}
use Prim.Native.Nat.{ℕ}
use Rattle.ground.proofs.Written.{written_more}
use Rattle.text.specs.Inner.Writing.{Room, Puts}

-- bytes behind bytes, where there is room for all
pub puts_more : (text : List ℕ) (at : ℕ) (xs ys : List ℕ) → Room text at (xs ++ ys) → {mid after : List ℕ} {place end : ℕ}
    → Puts text at xs mid place → Puts mid place ys after end → Puts text at (xs ++ ys) after end
puts_more text at xs ys room (first, place) (second, end) =
    rw (← (written_more text at xs ys room).0, ← (written_more text at xs ys room).1, ← first, ← place) (second, end)
