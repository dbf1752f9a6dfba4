-- Laws of `Stacked`. A store at or above a stack's top leaves the stack as it is: values are popped by taking them no longer into account, and one store
-- pushes one.
use mathlib.Core.Path.{◌≡◌, ◌∙◌}
use mathlib.Core.List.{List, [], ◌∷◌}
use Prim.Native.Nat.{ℕ, zero, suc, ◌≤◌, ◌<◌}
use native.Mathlib.Omega.{arith}
use lib.ListN.{length, drop, set}
use lib.Seq.{get_or-set_same, get_or-set_other}
use Rattle.ground.specs.Stacked.{Stacked}

-- stores above a stack
stacked_set : (array xs : List ℕ) (d v : ℕ) → length xs ≤ d → Stacked array xs → Stacked (set array d v) xs
unfolding Stacked
stacked_set array [] d v h s = tt
stacked_set array (x ∷ xs) d v h s =
    (get_or-set_other array d (length xs) v 0 (omega arith) ∙ s.0, stacked_set array xs d v (omega arith) s.1)

-- values taken off
pub stacked_drop : (array : List ℕ) (n : ℕ) (xs : List ℕ) → Stacked array xs → Stacked array (drop n xs)
unfolding Stacked
stacked_drop array zero xs s = s
stacked_drop array (suc n) [] s = tt
stacked_drop array (suc n) (x ∷ xs) s = stacked_drop array n xs s.1

-- a value put on
pub stacked_push : (array xs : List ℕ) (d v : ℕ) → d ≡ length xs → d < length array → Stacked array xs → Stacked (set array d v) (v ∷ xs)
unfolding Stacked
stacked_push array xs d v e h s =
    (rw (← e) (get_or-set_same array d v 0 h), stacked_set array xs d v (omega arith) s)
