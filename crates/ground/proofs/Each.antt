-- Laws of `Each`: with one element more, of lists one behind the other, of the element at a place, and of one property that gives another.
use mathlib.Core.List.{List, [], ◌∷◌, ◌++◌}
use Prim.Native.Nat.{ℕ, zero, suc, ◌<◌}
use native.Mathlib.Omega.{arith}
use lib.ListN.{length, get_or}
use Rattle.ground.specs.Each.{Each}

module _ {A : Type 0} (P : A → Type 0) where
  pub each_more : (xs : List A) (x : A) → Each P xs → P x → Each P (xs ++ x ∷ [])
  each_more [] x e p = (p, tt)
  each_more (y ∷ xs) x e p = (e.0, each_more xs x e.1 p)

  pub each_joined : (xs ys : List A) → Each P xs → Each P ys → Each P (xs ++ ys)
  each_joined [] ys d e = e
  each_joined (x ∷ xs) ys d e = (d.0, each_joined xs ys d.1 e)

  pub each_parted : (xs ys : List A) → Each P (xs ++ ys) → Each P xs × Each P ys
  each_parted [] ys e = (tt, e)
  each_parted (x ∷ xs) ys e = let (p, q) = each_parted xs ys e.1 in ((e.0, p), q)

  pub each_at : (xs : List A) (d : A) (k : ℕ) → Each P xs → k < length xs → P (get_or xs k d)
  each_at [] d k e h = absurd (omega arith)
  each_at (x ∷ xs) d zero e h = e.0
  each_at (x ∷ xs) d (suc k) e h = each_at xs d k e.1 (omega arith)

  pub each_of : (xs : List A) (d : A) → ((k : ℕ) → k < length xs → P (get_or xs k d)) → Each P xs
  each_of [] d h = tt
  each_of (x ∷ xs) d h = (h 0 (omega arith), each_of xs d (λ k l. h (suc k) (omega arith)))

  pub each_then : (Q : A → Type 0) → ((x : A) → P x → Q x) → (xs : List A) → Each P xs → Each Q xs
  each_then Q then [] e = tt
  each_then Q then (x ∷ xs) e = (then x e.0, each_then Q then xs e.1)
