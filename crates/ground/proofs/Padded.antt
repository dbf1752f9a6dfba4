-- Laws of `padded`: an element reads the same with and without the zeros behind it, and a store behind the last element adds one.
use mathlib.Core.Path.{◌≡◌, refl}
use mathlib.Core.List.{List, [], ◌∷◌, ◌++◌, append_assoc}
use Prim.Native.Nat.{ℕ, zero, suc, ◌-◌, ◌<◌}
use native.Mathlib.Nat.{sub-zero}
use native.Mathlib.Numerals.{add-one}
use native.Mathlib.Omega.{arith}
use lib.ListN.{length, get_or, set, replicate, length-append}
use lib.Seq.{set-append_seam}
use Rattle.ground.specs.Padded.{padded}

-- a zero is what an element past the end reads as
zeros : (m i : ℕ) → ◌≡◌ {A = ℕ} (get_or (replicate m 0) i 0) 0
zeros zero i = refl
zeros (suc m) zero = refl
zeros (suc m) (suc i) = zeros m i

pub append_zeros : (xs : List ℕ) (m i : ℕ) → get_or (xs ++ replicate m 0) i 0 ≡ get_or xs i 0
append_zeros [] m i = zeros m i
append_zeros (x ∷ xs) m zero = refl
append_zeros (x ∷ xs) m (suc i) = append_zeros xs m i

pub get_or-padded : (n : ℕ) (xs : List ℕ) (i : ℕ) → get_or (padded n xs) i 0 ≡ get_or xs i 0
unfolding padded
get_or-padded n xs i = append_zeros xs (n - length xs) i

pub padded_none : (n : ℕ) → padded n [] ≡ replicate n 0
unfolding padded
padded_none n = rw sub-zero

pub set_padded : (n : ℕ) (xs : List ℕ) (v : ℕ) → length xs < n → set (padded n xs) (length xs) v ≡ padded n (xs ++ v ∷ [])
unfolding padded
set_padded n xs v h =
    let e : n - length xs ≡ suc (n - suc (length xs)) = omega arith in
    let k : length (xs ++ v ∷ []) ≡ suc (length xs) = simp length-append (add-one (length xs)) in
    rw (e, set-append_seam, k, append_assoc)
