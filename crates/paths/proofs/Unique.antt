-- Any two right answers are equal: a first clip is one, a count is one, and no two kinds of answer are right together. And what is right does not turn on how
-- the states and the meaning are named.
use mathlib.Core.Path.{◌≡◌, refl, fun_ext}
use mathlib.Core.List.{List, [], ◌∷◌}
use mathlib.Core.Logic.{◌⊎◌, inl, inr, ◌↔◌}
use Prim.Native.Nat.{ℕ}
use native.Mathlib.Omega.{arith}
use Rattle.ground.specs.Frames.{Clip}
use Rattle.ground.proofs.Each.{each_then}
use Rattle.paths.specs.Order.{Less}
use Rattle.paths.specs.Answers.{Satisfying, First, Short, Distinct, Counts, Answer, met, none, no_room, Right}
use Rattle.paths.proofs.Order.{less_or}
use Rattle.paths.proofs.Counting.{one_count, not_within}

one_first : (Meets : Clip → Type 0) (c d : Clip) → First Meets c → First Meets d → c ≡ d
one_first Meets c d h k = go (less_or c d)
  where
    go : (Less c d ⊎ (c ≡ d)) ⊎ Less d c → c ≡ d
    go (inl (inl before)) = absurd (k.first c h.satisfying before)
    go (inl (inr same)) = same
    go (inr behind) = absurd (h.first d k.satisfying behind)

pub one_answer : {S : Type 0} (state : Clip → S) (Meets : Clip → Type 0) (room : ℕ) (a b : Answer) → Right state Meets room a → Right state Meets room b → a ≡ b
one_answer state Meets room (met c n) (met d m) h k = cc (one_first Meets c d h.0 k.0, one_count state Meets n m h.1 k.1)
one_answer state Meets room (met c n) (none m) h k = absurd (k.0 c h.0.satisfying)
one_answer state Meets room (met c n) no_room h k = absurd (not_within state Meets n room h.1 h.2 k)
one_answer state Meets room (none n) (met d m) h k = absurd (h.0 d k.0.satisfying)
one_answer state Meets room (none n) (none m) h k = cc (one_count state Meets n m h.1 k.1)
one_answer state Meets room (none n) no_room h k = absurd (not_within state Meets n room h.1 h.2 k)
one_answer state Meets room no_room (met d m) h k = absurd (not_within state Meets m room k.1 k.2 h)
one_answer state Meets room no_room (none m) h k = absurd (not_within state Meets m room k.1 k.2 h)
one_answer state Meets room no_room no_room h k = refl

-- One meaning gives another on clips of one or more frames: what satisfies the one satisfies the other, and what is shorter than all that satisfies the other
-- is so for the one
module _ (Meets Meets' : Clip → Type 0) (then : (x : ℕ) (c : Clip) → Meets (x ∷ c) → Meets' (x ∷ c)) where
  satisfying_then : (c : Clip) → Satisfying Meets c → Satisfying Meets' c
  satisfying_then [] h = absurd (omega (arith, h.some))
  satisfying_then (x ∷ c) h = record { bytes = h.bytes; some = h.some; meets = then x c h.meets }

  short_then : (c : Clip) → Short Meets' c → Short Meets c
  short_then c h = record { bytes = h.bytes; shorter = λ d s. h.shorter d (satisfying_then d s) }

module _ (Meets Meets' : Clip → Type 0) (alike : (x : ℕ) (c : Clip) → Meets (x ∷ c) ↔ Meets' (x ∷ c)) where
  back : (c : Clip) → Satisfying Meets' c → Satisfying Meets c
  back = satisfying_then Meets' Meets λ x c. (alike x c).1

  -- The first clip that satisfies is one
  pub first_alike : (c : Clip) → First Meets c → First Meets' c
  first_alike c h = record { satisfying = satisfying_then Meets Meets' (λ x d. (alike x d).0) c h.satisfying; first = λ d s. h.first d (back d s) }

module _ {S : Type 0} (state : Clip → S) (Meets Meets' : Clip → Type 0) (alike : (x : ℕ) (c : Clip) → Meets (x ∷ c) ↔ Meets' (x ∷ c)) where
  distinct_alike : (clips : List Clip) → Distinct state Meets clips → Distinct state Meets' clips
  distinct_alike clips h =
      record { short = each_then (Short Meets) (Short Meets') (short_then Meets' Meets (λ x c. (alike x c).1)) clips h.short; different = h.different }

  counts_alike : (n : ℕ) → Counts state Meets n → Counts state Meets' n
  counts_alike n h =
      record {
        clips = h.clips;
        number = h.number;
        distinct = distinct_alike h.clips h.distinct;
        all = λ c s. h.all c (short_then Meets Meets' (λ x d. (alike x d).0) c s);
      }

  meaning_alike : (room : ℕ) (a : Answer) → Right state Meets room a → Right state Meets' room a
  meaning_alike room (met c n) h = (first_alike Meets Meets' alike c h.0, counts_alike n h.1, h.2)
  meaning_alike room (none n) h = (λ c s. h.0 c (back Meets Meets' alike c s), counts_alike n h.1, h.2)
  meaning_alike room no_room h = record { clips = h.clips; more = h.more; distinct = distinct_alike h.clips h.distinct }

-- An answer that is right is so for other names of the same states and of the same meaning
pub right_alike : {S : Type 0} (state state' : Clip → S) (Meets Meets' : Clip → Type 0) (room : ℕ) (a : Answer)
    → ((c : Clip) → state c ≡ state' c)
    → ((x : ℕ) (c : Clip) → Meets (x ∷ c) ↔ Meets' (x ∷ c))
    → Right state Meets room a → Right state' Meets' room a
right_alike state state' Meets Meets' room a same alike h = rw (fun_ext same) at (meaning_alike state Meets Meets' alike room a h)
