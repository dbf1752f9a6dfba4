-- What is known of a choice that came out as its first way doesn't: the test failed, and the rest came out so; and of one whose ways are alike. For tests in
-- turn, each of which refuses.
use mathlib.Core.Path.{◌≡◌, refl}
use mathlib.Core.Bool.{Bool, true, false, cond, ◌||◌}
use Prim.Native.Nat.{ℕ}
use native.Mathlib.Omega.{arith}

pub else_taken : {A : Type 0} {x y z : A} (t : Bool) → (x ≡ z → ⊥) → cond t x y ≡ z → (t ≡ false) × (y ≡ z)
else_taken true other e = absurd (other e)
else_taken false other e = (refl, e)

pub neither : (a b : Bool) → (a || b) ≡ false → (a ≡ false) × (b ≡ false)
neither true b e = absurd (let z : ◌≡◌ {A = ℕ} 0 1 = cc in omega arith)
neither false b e = (refl, e)

-- a test that does not hold
pub bool_false : (t : Bool) → (t ≡ true → ⊥) → t ≡ false
bool_false true h = absurd (h refl)
bool_false false h = refl

-- what holds of both ways holds of the choice
pub both_ways : {A : Type 0} (P : A → Type 0) (t : Bool) {x y : A} → P x → P y → P (cond t x y)
both_ways P true p q = p
both_ways P false p q = q
