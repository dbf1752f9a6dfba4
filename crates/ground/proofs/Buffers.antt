-- Laws of `AllBytes`, of `too_short`, which tests the lengths, and of `over`.
use mathlib.Core.Path.{◌≡◌}
use mathlib.Core.Bool.{true, false}
use mathlib.Core.List.{List, [], ◌∷◌, ◌++◌, append_assoc}
use Prim.Native.Nat.{ℕ, zero, suc, ◌≤◌, ◌<◌}
use native.Mathlib.Numerals.{add-one}
use native.Mathlib.Omega.{arith}
use borrow.Author.Tests.{lt-ltb, le-ltb, ltb-false}
use lib.ListN.{length, get_or, drop, set, length-append, length-drop}
use lib.Seq.{drop-cons, set_at}
use Rattle.ground.specs.Buffers.{AllBytes, too_short, over}

pub too_short_lem : (out answer : List ℕ) → length out < length answer → too_short out answer ≡ true
too_short_lem out answer h = lt-ltb (length out) (length answer) h

pub long_enough : (out answer : List ℕ) → length answer ≤ length out → too_short out answer ≡ false
long_enough out answer h = le-ltb (length out) (length answer) h

pub not_short : (out answer : List ℕ) → too_short out answer ≡ false → length answer ≤ length out
not_short out answer e = ltb-false (length out) (length answer) e

-- Bytes behind bytes are bytes
pub bytes_joined : (xs ys : List ℕ) → AllBytes xs → AllBytes ys → AllBytes (xs ++ ys)
bytes_joined [] ys p q i = q i
bytes_joined (x ∷ xs) ys p q zero = p 0
bytes_joined (x ∷ xs) ys p q (suc i) = bytes_joined xs ys (λ k. p (suc k)) q i

pub over_length : {A : Type 0} (own all : List A) → length own ≤ length all → length (over own all) ≡ length all
over_length own all h = simp (length-append, length-drop) (omega arith)

-- One element more, in front of what stays
pub over_more : {A : Type 0} (own all : List A) (n : ℕ) (v : A) → length own ≡ n → n < length all → set (over own all) n v ≡ over (own ++ v ∷ []) all
over_more own all n v e h =
    let d : drop (length own) all ≡ get_or all (length own) v ∷ drop (suc (length own)) all = drop-cons all (length own) v (omega arith) in
    let l : length (own ++ v ∷ []) ≡ suc (length own) = simp length-append (add-one (length own)) in
    rw (d, set_at own _ _ v n e, l, append_assoc)
