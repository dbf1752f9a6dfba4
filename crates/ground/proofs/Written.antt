-- Laws of `written` and `place_after`: bytes that fit stand from the place on and the next place is behind them, and bytes that don't leave all as it was. As
-- stores one by one, bytes written behind bytes are as if all were written at once.
use mathlib.Core.Path.{◌≡◌, sym}
use mathlib.Core.List.{List, [], ◌∷◌, ◌++◌, append_assoc}
use Prim.Native.Nat.{ℕ, suc, ◌+◌, ◌-◌, ◌≤◌, ◌<◌}
use native.Mathlib.Nat.{add-zero, add_assoc}
use native.Mathlib.Decide.{dec_le}
use native.Mathlib.Omega.{arith}
use mathlib.Core.Logic.{by_cases}
use borrow.Author.Tests.{le-leb, lt-leb}
use borrow.Rule.Slice.PartMut.{put_mid}
use lib.ListN.{length, take, drop, set, length-append}
use lib.Seq.{sets, sets-eq, length-sets, drop-drop}
use Rattle.ground.specs.Buffers.{written, place_after}

module _ (buffer : List ℕ) (at : ℕ) (bytes : List ℕ) where
  -- bytes that fit, stored one by one
  pub fitting : at + length bytes ≤ length buffer → (sets buffer at bytes ≡ written buffer at bytes) × (at + length bytes ≡ place_after buffer at bytes)
  unfolding written place_after
  fitting h = (rw (le-leb _ _ h) (sets-eq bytes buffer at h), rw (le-leb _ _ h))

  -- bytes that don't
  pub unfitting : length buffer < at + length bytes → (buffer ≡ written buffer at bytes) × (at ≡ place_after buffer at bytes)
  unfolding written place_after
  unfitting h = (rw (lt-leb _ _ h), rw (lt-leb _ _ h))

-- the buffer stays as long as it is
pub written_length : (buffer : List ℕ) (at : ℕ) (bytes : List ℕ) → length (written buffer at bytes) ≡ length buffer
written_length buffer at bytes =
    by_cases (dec_le (at + length bytes) (length buffer))
    (λ h. rw (← (fitting buffer at bytes h).0, length-sets))
    (λ h. rw (← (unfitting buffer at bytes (omega arith)).0))

-- no bytes, wherever
pub nothing : (buffer : List ℕ) (at : ℕ) → (buffer ≡ written buffer at []) × (at ≡ place_after buffer at [])
nothing buffer at =
    by_cases (dec_le (at + 0) (length buffer))
    (λ h. rw add-zero at (fitting buffer at [] h))
    (λ h. unfitting buffer at [] (omega arith))

-- stores one by one, and more behind them
sets_append : (buffer : List ℕ) (at : ℕ) (xs ys : List ℕ) → sets (sets buffer at xs) (at + length xs) ys ≡ sets buffer at (xs ++ ys)
sets_append buffer at [] ys = rw add-zero
sets_append buffer at (x ∷ xs) ys =
    let e : at + suc (length xs) ≡ suc at + length xs = omega arith in
    rw e (sets_append (set buffer at x) (suc at) xs ys)

-- bytes behind bytes, where all of them fit: the second find room, and both are as if written at once
module _ (buffer : List ℕ) (at : ℕ) (xs ys : List ℕ) (fits : at + length (xs ++ ys) ≤ length buffer) where
  pub room_more : place_after buffer at xs + length ys ≤ length (written buffer at xs)
  room_more =
      let (stores, place) = fitting buffer at xs (omega (arith, length-append xs ys)) in
      rw (← stores, ← place, length-sets) (omega (arith, length-append xs ys))

  pub written_more :
      (written (written buffer at xs) (place_after buffer at xs) ys ≡ written buffer at (xs ++ ys))
      × (place_after (written buffer at xs) (place_after buffer at xs) ys ≡ place_after buffer at (xs ++ ys))
  written_more =
      let (first, place) = fitting buffer at xs (omega (arith, length-append xs ys)) in
      let (both, end) = fitting buffer at (xs ++ ys) fits in
      let (second, last) = fitting (written buffer at xs) (place_after buffer at xs) ys room_more in
      (rw (← second, ← first, ← place, sets_append) both, rw (← last, ← place, add_assoc) (rw length-append at end))

-- what stands in a buffer once bytes that fit are written
pub written_fitting : (buffer : List ℕ) (at : ℕ) (bytes : List ℕ) → at + length bytes ≤ length buffer
    → (written buffer at bytes ≡ take at buffer ++ (bytes ++ drop (at + length bytes) buffer)) × (place_after buffer at bytes ≡ at + length bytes)
unfolding written place_after
written_fitting buffer at bytes fits =
    (rw (le-leb _ _ fits) (append_assoc (take at buffer) bytes (drop (at + length bytes) buffer)), rw (le-leb _ _ fits))

-- bytes copied over the part of a buffer that is as long, from a place on
pub copied : (buffer : List ℕ) (at : ℕ) (bytes part : List ℕ) → at + length bytes ≤ length buffer → part ≡ bytes →
    (put_mid at (at + length bytes - at) buffer part ≡ written buffer at bytes) × (at + length bytes ≡ place_after buffer at bytes)
copied buffer at bytes part fits e =
    let (stand, place) = written_fitting buffer at bytes fits in
    let width : at + length bytes - at ≡ length bytes = omega arith in
    let behind : drop (length bytes) (drop at buffer) ≡ drop (at + length bytes) buffer = drop-drop (length bytes) at buffer in
    (rw (stand, e, width, behind), sym place)
