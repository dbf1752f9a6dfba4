-- A line of frames: the first as two digits, then each other behind a space, then the line's end.
use mathlib.Core.Path.{◌≡◌, refl}
use mathlib.Core.List.{List, [], ◌∷◌, ◌++◌}
use Prim.Native.Nat.{ℕ, ◌+◌, ◌-◌, ◌≤◌, ◌<◌}
use native.Mathlib.Numerals.{add-one}
use native.Mathlib.Omega.{arith}
use lib.ListN.{length, take, drop, get_or, drop_of_length-le}
use lib.Seq.{drop-cons, take-length}
use Rattle.text.specs.Digits.{ascii, hex_byte}
use Rattle.standing.specs.declared.page.Page.{Page}
use Rattle.standing.specs.Inner.Pages.{Writes}
use Rattle.standing.specs.Text.{spaced, frames_text}
use Rattle.standing.proofs.Pages.{LeftOn, go_on}

-- the first of one or more
pub first_frame : (frames : List ℕ) → 1 ≤ length frames
    → frames_text frames ≡ hex_byte (get_or frames 0 0) ++ (spaced (drop 1 frames) ++ ascii "\n")
first_frame [] some = absurd (omega arith)
first_frame (x ∷ c) some = refl

-- the next one
pub next_frame : (frames : List ℕ) (n : ℕ) → n < length frames
    → spaced (drop n frames) ≡ ascii " " ++ (hex_byte (get_or frames n 0) ++ spaced (drop (n + 1) frames))
unfolding spaced
next_frame frames n more = rw (add-one, drop-cons frames n 0 more)

-- none
pub no_frame : (frames : List ℕ) (n : ℕ) → length frames ≤ n → spaced (drop n frames) ≡ []
unfolding spaced
no_frame frames n h = rw (drop_of_length-le frames {i = n} h)

-- all but the first
pub rest_frames : (frames : List ℕ) → take (length frames - 1) (drop 1 frames) ≡ drop 1 frames
rest_frames [] = refl
rest_frames (x ∷ c) = let e : length (x ∷ c) - 1 ≡ length c = omega arith in rw (e, take-length c)

module _ {page₀ page page' page'' : Page} {all : List ℕ} (frames : List ℕ) (n : ℕ)
    (left : LeftOn page₀ all page (spaced (drop n frames) ++ ascii "\n")) where
  -- a frame is there
  pub frame_behind : n < length frames → Writes page (ascii " ") page' → Writes page' (hex_byte (get_or frames n 0)) page''
      → LeftOn page₀ all page'' (spaced (drop (n + 1) frames) ++ ascii "\n")
  unfolding ascii
  frame_behind more space frame = go_on _ _ (go_on (ascii " ") _ (rw (next_frame frames n more) at left) space) frame
