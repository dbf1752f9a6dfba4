-- A line of delay bits moves on by one, element by element. Up to a place each element of the line is the one that stood behind it, and from there on nothing
-- has changed; the part before that place is as long as before, so a store there is a store at a seam.
use mathlib.Core.Path.{◌≡◌, ◌∙◌}
use mathlib.Core.Bool.{Bool}
use mathlib.Core.List.{List, [], ◌∷◌, ◌++◌, append_assoc}
use Prim.Native.Nat.{ℕ, ◌+◌, ◌≤◌, ◌<◌}
use native.Mathlib.Numerals.{add-one}
use native.Mathlib.Omega.{arith}
use lib.ListN.{length, get_or, take, drop, set, length-append, length-take, length-drop, take-append-drop, drop_of_length-le}
use lib.Seq.{take-suc, drop-cons, drop-append-le, set_at, get_or-append-add, get_or-drop}
use Rattle.sequencer.specs.Registers.{shifted}

-- The line from `at` on has moved as far as p
unfoldable pub moved : {A : Type 0} → List A → ℕ → ℕ → List A
moved xs at p = take at xs ++ (drop (at + 1) (take (p + 1) xs) ++ drop p xs)

module _ {A : Type 0} (xs : List A) (at : ℕ) where
  pub moved_none : xs ≡ moved xs at at
  unfolding moved
  moved_none =
      let e : drop (at + 1) (take (at + 1) xs) ≡ [] = drop_of_length-le (take (at + 1) xs) {i = at + 1} (omega (arith, length-take (at + 1) xs)) in
      rw (e, take-append-drop)

  module _ (p : ℕ) (from : at ≤ p) (inside : p < length xs) where
    -- what has moved reaches up to p
    head_length : length (take at xs ++ drop (at + 1) (take (p + 1) xs)) ≡ p
    head_length = simp (length-append, length-drop, length-take) (omega arith)

    -- a store at p
    set_moved : (v : A) → set (moved xs at p) p v ≡ take at xs ++ (drop (at + 1) (take (p + 1) xs) ++ v ∷ drop (p + 1) xs)
    unfolding moved
    set_moved v =
        let e : drop p xs ≡ get_or xs p v ∷ drop (p + 1) xs = rw (add-one p) (drop-cons xs p v inside) in
        let s = set_at (take at xs ++ drop (at + 1) (take (p + 1) xs)) (get_or xs p v) (drop (p + 1) xs) v p head_length in
        rw e (simp append_assoc at s)

    -- the element behind p has not moved yet
    next_moved : (z : A) → get_or (moved xs at p) (p + 1) z ≡ get_or xs (p + 1) z
    unfolding moved
    next_moved z =
        let s = get_or-append-add (take at xs ++ drop (at + 1) (take (p + 1) xs)) (drop p xs) 1 z in
        rw (head_length, append_assoc) at s ∙ get_or-drop p xs 1 z

  pub moved_more : (p : ℕ) → at ≤ p → p + 1 < length xs → (z : A) → set (moved xs at p) p (get_or (moved xs at p) (p + 1) z) ≡ moved xs at (p + 1)
  unfolding moved
  moved_more p from inside z =
      let in_p : p < length xs = omega arith in
      let own = get_or xs (p + 1) z in
      let e : take (p + 1 + 1) xs ≡ take (p + 1) xs ++ own ∷ [] = rw (add-one (p + 1)) (take-suc xs (p + 1) z inside) in
      let q : drop (at + 1) (take (p + 1) xs ++ own ∷ []) ≡ drop (at + 1) (take (p + 1) xs) ++ own ∷ [] =
      drop-append-le (at + 1) (take (p + 1) xs) (own ∷ []) (omega (arith, length-take (p + 1) xs)) in
      rw (next_moved p from in_p z, set_moved p from in_p own, e, q) (simp append_assoc)

-- once the last element is stored, the line has moved on
pub shifted_moved : (xs : List Bool) (at d last : ℕ) → last + 1 ≡ at + d → 1 ≤ d → at + d ≤ length xs
    → (v : Bool) → set (moved xs at last) last v ≡ shifted xs at d v
unfolding shifted
shifted_moved xs at d last e some inside v = rw (← e) (set_moved xs at last (omega arith) (omega arith) v)
