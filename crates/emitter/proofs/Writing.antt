-- Code as bytes, written part by part: numbers behind numbers, and instructions behind instructions. Each part is written where the last one ended, so what is
-- left, written there, makes the whole.
use mathlib.Core.Path.{◌≡◌, refl, ◌∙◌}
use mathlib.Core.List.{List, [], ◌∷◌, ◌++◌, append-nil}
use Prim.Native.Nat.{ℕ, suc, ◌+◌, ◌≤◌, ◌<◌}
use native.Mathlib.Nat.{zero-add}
use native.Mathlib.Numerals.{add-one}
use native.Mathlib.Omega.{arith}
use borrow.Author.Tests.{le-leb}
use lib.ListN.{length, get_or, drop, length-append, drop_of_length-le}
use lib.Seq.{drop-cons}
use Rattle.ground.specs.Buffers.{over, written, place_after}
use Rattle.ground.proofs.Written.{nothing, room_more, written_more}
use Rattle.reading.specs.InTurn.{bytes_of_all}
use Rattle.reading.specs.Numbers.{number_bytes}
use Rattle.code.specs.Code.{bytes_of_instruction}
use Rattle.code.specs.declared.instruction.Instruction.TheVariants.{One, Flag, Nand, Reach, Later}

-- In a buffer, behind the first k parts, what is left makes the whole
pub record Left {A : Type 0} (own : A → List ℕ) (parts : List A) (before : List ℕ) (from : ℕ) (k : ℕ) (out : List ℕ) (at : ℕ) : Type 0 where
  pub room : at + length (bytes_of_all own (drop k parts)) ≤ length out
  pub buffer : written out at (bytes_of_all own (drop k parts)) ≡ written before from (bytes_of_all own parts)
  pub place : place_after out at (bytes_of_all own (drop k parts)) ≡ place_after before from (bytes_of_all own parts)

module _ {A : Type 0} (own : A → List ℕ) (parts : List A) (before : List ℕ) (from : ℕ) where
  -- the next part has room
  pub left_room : (k : ℕ) (out : List ℕ) (at : ℕ) (d : A) → k < length parts → Left own parts before from k out at
      → at + length (own (get_or parts k d)) ≤ length out
  unfolding bytes_of_all
  left_room k out at d h left =
      let rest = bytes_of_all own (drop (suc k) parts) in
      let room : at + length (own (get_or parts k d) ++ rest) ≤ length out = rw (drop-cons parts k d h) at left.room in
      omega (arith, room, length-append (own (get_or parts k d)) rest)

  pub left_more : (k : ℕ) (out : List ℕ) (at : ℕ) (d : A) (mid : List ℕ) (next : ℕ) → k < length parts → Left own parts before from k out at
      → mid ≡ written out at (own (get_or parts k d)) → next ≡ place_after out at (own (get_or parts k d)) → Left own parts before from (k + 1) mid next
  unfolding bytes_of_all
  left_more k out at d mid next h left stands behind =
      let part = own (get_or parts k d) in
      let rest = bytes_of_all own (drop (suc k) parts) in
      let cut = drop-cons parts k d h in
      let room : at + length (part ++ rest) ≤ length out = rw cut at left.room in
      let (all, end) = written_more out at part rest room in
      rw (add-one, stands, behind)
      (record {
        room = room_more out at part rest room;
        buffer = all ∙ rw cut at left.buffer;
        place = end ∙ rw cut at left.place;
      })

  pub left_none : (k : ℕ) (out : List ℕ) (at : ℕ) → length parts ≤ k → Left own parts before from k out at
      → (out ≡ written before from (bytes_of_all own parts)) × (at ≡ place_after before from (bytes_of_all own parts))
  unfolding bytes_of_all
  left_none k out at h left =
      let (same, stays) = nothing out at in
      let none : drop k parts ≡ [] = drop_of_length-le parts h in
      (same ∙ rw none at left.buffer, stays ∙ rw none at left.place)

-- The bytes of an instruction are those of its code byte and its numbers
pub one_numbers : bytes_of_all number_bytes (0x01 ∷ []) ≡ bytes_of_instruction One
unfolding bytes_of_all bytes_of_instruction number_bytes
one_numbers = refl

pub flag_numbers : (k : ℕ) → bytes_of_all number_bytes (0x02 ∷ k ∷ []) ≡ bytes_of_instruction (Flag k)
unfolding bytes_of_all bytes_of_instruction number_bytes
flag_numbers k = rw append-nil

pub nand_numbers : (i j : ℕ) → bytes_of_all number_bytes (0x03 ∷ i ∷ j ∷ []) ≡ bytes_of_instruction (Nand i j)
unfolding bytes_of_all bytes_of_instruction number_bytes
nand_numbers i j = simp append-nil

pub reach_numbers : (i j w : ℕ) → bytes_of_all number_bytes (0x04 ∷ i ∷ j ∷ w ∷ []) ≡ bytes_of_instruction (Reach i j w)
unfolding bytes_of_all bytes_of_instruction number_bytes
reach_numbers i j w = simp append-nil

pub later_numbers : (i d : ℕ) → bytes_of_all number_bytes (0x05 ∷ i ∷ d ∷ []) ≡ bytes_of_instruction (Later i d)
unfolding bytes_of_all bytes_of_instruction number_bytes
later_numbers i d = simp append-nil

pub ruleset instruction_numbers = (one_numbers, flag_numbers, nand_numbers, reach_numbers, later_numbers)

-- bytes written from the first place on
pub written_first : (out bytes : List ℕ) → length bytes ≤ length out → (written out 0 bytes ≡ over bytes out) × (place_after out 0 bytes ≡ length bytes)
unfolding written place_after
written_first out bytes h = (simp (zero-add, le-leb, h), simp (zero-add, le-leb, h))
