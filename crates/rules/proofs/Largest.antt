-- The largest of some numbers: it is one of them that none exceeds; and of the last values of a stack it is the same in whatever order they stand.
use Rattle.std.proofs.Common.{◌≡◌, refl, List, [], ◌∷◌, ℕ, zero, suc, ◌-◌, ◌≤◌, ◌<◌, length, get_or, take, drop, Option, Some, None, arith}
use native.Mathlib.Nat.{suc-sub-suc}
use native.Mathlib.Numerals.{sub-one}
use Rattle.std.specs.Option.{MatchOption, unwrap_or}
use Rattle.std.proofs.Math.Seq.{take-suc, drop-cons}
use Rattle.std.proofs.lemmas.List.Recursion.{max_bounds, max_least, max_push}
use Rattle.ground.specs.Stacked.{Stacked}
use Rattle.rules.specs.Inner.Gathered.{largest_of}

bounds : (xs : List ℕ) (i : ℕ) → i < length xs → get_or xs i 0 ≤ largest_of xs
unfolding largest_of
bounds xs i h = max_bounds largest_of (λ x. x) refl (λ _ _. refl) xs i 0 h

least : (xs : List ℕ) (m : ℕ) → ((i : ℕ) → i < length xs → get_or xs i 0 ≤ m) → largest_of xs ≤ m
unfolding largest_of
least xs m h = max_least largest_of (λ x. x) refl (λ _ _. refl) xs 0 m h

pub is_largest : (xs : List ℕ) (r : Option ℕ)
    → MatchOption r (length xs ≡ 0) (λ m. ((k : ℕ) × (k < length xs) × (get_or xs k 0 ≡ m)) × ((k : ℕ) → k < length xs → get_or xs k 0 ≤ m))
    → unwrap_or r 0 ≡ largest_of xs
unfolding largest_of
is_largest [] None h = refl
is_largest (x ∷ xs) None h = absurd (omega arith)
is_largest xs (Some m) h = omega (arith, bounds xs h.0.0 h.0.1, least xs m h.1)

-- the value so far below a stack's top
at_place : (array hs : List ℕ) (n : ℕ) → Stacked array hs → n < length hs → get_or array (length hs - suc n) 0 ≡ get_or hs n 0
unfolding Stacked
at_place array [] n s h = absurd (omega arith)
at_place array (x ∷ hs) zero s h = rw sub-one s.0
at_place array (x ∷ hs) (suc n) s h = rw suc-sub-suc (at_place array hs n s.1 (omega arith))

-- the last values of a stack, as they stand in its array and as they stand in the stack
pub largest_last : (array hs : List ℕ) (n : ℕ) → Stacked array hs → n ≤ length hs → length hs ≤ length array
    → largest_of (take n (drop (length hs - n) array)) ≡ largest_of (take n hs)
unfolding largest_of
largest_last array hs zero s h l = refl
largest_last array hs (suc n) s h l =
    let place = length hs - suc n in
    let next : length hs - n ≡ suc place = omega arith in
    let first : drop place array ≡ get_or hs n 0 ∷ drop (length hs - n) array =
    rw (next, ← at_place array hs n s h) (drop-cons array place 0 (omega arith)) in
    rw (first, take-suc hs n 0 h, max_push largest_of (λ x. x) refl (λ _ _. refl))
    (omega (arith, largest_last array hs n s (omega arith) l))
