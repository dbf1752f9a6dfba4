-- A rule looks at no frame past its horizon: each timed kind tests its operands at most b places on, so to cut the clip after
-- the horizon changes no test, by recursion on the window. By `agreement` that carries over to the worded meaning.
use mathlib.Core.Path.{◌≡◌, refl, sym, ap, ◌∙◌}
use mathlib.Core.Bool.{Bool, not}
use mathlib.Core.List.{[], ◌∷◌}
use mathlib.Core.Logic.{◌↔◌}
use Prim.Native.Nat.{ℕ, zero, suc, ◌+◌, ◌-◌, ◌≤◌, ◌<◌, max}
use native.Mathlib.Nat.{zero-sub, sub-zero, suc-sub-suc}
use native.Mathlib.Omega.{arith}
use lib.ListN.{length, take, drop, length-take}
use lib.Seq.{take-nil, get_or-take}
use Rattle.rules.specs.Formula.{Formula, True, False, Flag, Not, And, Or, Until, Release, Eventually, Globally, horizon}
use Rattle.ground.specs.Frames.{Clip}
use Rattle.rules.specs.Meaning.{Holds, within, reaches, holds}
use Rattle.rules.proofs.Agreement.{agreement}

-- To drop from a part is to take a shorter part of what is dropped
pub drop-take : (a n : ℕ) (c : Clip) → drop a (take n c) ≡ take (n - a) (drop a c)
drop-take zero n c = rw sub-zero
drop-take (suc a) zero c = rw zero-sub
drop-take (suc a) (suc n) [] = rw take-nil
drop-take (suc a) (suc n) (x ∷ c) = rw suc-sub-suc (drop-take a n c)

-- A test with horizon h: to cut a clip to more than h frames does not change it
abbrev LooksAhead : ℕ → (Clip → Bool) → Type 0
LooksAhead h l = (c : Clip) (n : ℕ) → h < n → l (take n c) ≡ l c

module _ {g h : ℕ} {l r : Clip → Bool} (ls : LooksAhead g l) (rs : LooksAhead h r) where
  within_take : (k m : ℕ) (d : Clip) → k ≤ m - max g h → within k l r (take m d) ≡ within k l r d
  unfolding within
  within_take zero m d i = refl
  within_take (suc k) zero d i = absurd (omega arith)
  within_take (suc k) (suc m) [] i = refl
  within_take (suc k) (suc m) (x ∷ d) i =
      cc (rs (x ∷ d) (suc m) (omega arith), ls (x ∷ d) (suc m) (omega arith), within_take k m d (omega arith))

  timed : (a b : ℕ) → LooksAhead (b + max g h) (reaches a b l r)
  unfolding reaches
  timed a b c n i = rw drop-take (within_take (suc b - a) (n - a) (drop a c) (omega arith))

pub enough : (f : Formula) (c : Clip) (n : ℕ) → horizon f < n → holds f (take n c) ≡ holds f c
unfolding horizon holds
enough True c n h = refl
enough False c n h = refl
enough (Flag k) c n h = rw get_or-take
enough (Not f) c n h = ap not (enough f c n h)
enough (And f g) c n h = cc (enough f c n (omega arith), enough g c n (omega arith))
enough (Or f g) c n h = cc (enough f c n (omega arith), enough g c n (omega arith))
enough (Until a b f g) c n h = timed (enough f) (enough g) a b c n h
enough (Release a b f g) c n h =
    ap not (timed (λ d m k. ap not (enough f d m k)) (λ d m k. ap not (enough g d m k)) a b c n h)
enough (Eventually a b g) c n h = timed {g = 0} (λ d m k. refl) (enough g) a b c n (omega arith)
enough (Globally a b g) c n h =
    ap not (timed {g = 0} (λ d m k. refl) (λ d m k. ap not (enough g d m k)) a b c n (omega arith))

-- Whatever its length, a clip and its first frames mean the same
cut : (f : Formula) (c : Clip) → Holds f c ↔ Holds f (take (horizon f + 1) c)
cut f c =
    let e = enough f c (horizon f + 1) (omega arith) in
    (λ h. (agreement f _).0 (e ∙ (agreement f c).1 h), λ h. (agreement f c).0 (sym e ∙ (agreement f _).1 h))

pub first_frames : (f : Formula) (c : Clip) → horizon f < length c → Holds f c ↔ Holds f (take (horizon f + 1) c)
first_frames f c _ = cut f c

pub short_one : (f : Formula) (c : Clip) → 0 < length c → Holds f c → (d : Clip) × (0 < length d) × (length d ≤ horizon f + 1) × Holds f d
short_one f c i h =
    let e = length-take (horizon f + 1) c in
    (take (horizon f + 1) c, omega arith, omega arith, (cut f c).0 h)
