-- What REACH's counter and LATER's bit say in words. A place reached in a clip with one frame more is that frame, if j holds there, or lies one further on than
-- a place reached before, if i holds at that frame; so the smallest place rises by one, is none past w, and falls to 0, as the counter does.
use mathlib.Core.Path.{◌≡◌, refl, sym, ◌∙◌}
use mathlib.Core.Bool.{Bool, true, false, false≢true}
use mathlib.Core.List.{[], ◌∷◌}
use mathlib.Core.Logic.{by_cases}
use Prim.Native.Nat.{ℕ, zero, suc, ◌≤◌, ◌<◌}
use borrow.Author.Tests.{lt-ltb, le-ltb}
use native.Mathlib.Decide.{dec_lt}
use native.Mathlib.Numerals.{add-one}
use native.Mathlib.Omega.{arith}
use lib.ListN.{length, drop}
use Rattle.ground.specs.Frames.{Clip}
use Rattle.sequencer.specs.Bits.{Wire, Counter, none, count, rise, next, counter, later, Reached, Says}

module _ (w : ℕ) (i j : Wire) (x : ℕ) (c : Clip) where
  -- a place further on is one of the clip before
  behind : (q : ℕ) → Reached i j (x ∷ c) (suc q) → Reached i j c q
  behind q r =
      record { inside = omega (arith, r.inside); there = r.there; before = λ p h. r.before (suc p) (omega arith) }

  further : (p : ℕ) → i (x ∷ c) ≡ true → Reached i j c p → Reached i j (x ∷ c) (suc p)
  further p on r = record { inside = omega (arith, r.inside); there = r.there; before = before }
    where
      before : (q : ℕ) → q < suc p → i (drop q (x ∷ c)) ≡ true
      before zero h = on
      before (suc q) h = r.before q (omega arith)

  module _ (off : j (x ∷ c) ≡ false) where
    nowhere : ((q : ℕ) → suc q ≤ w → Reached i j (x ∷ c) (suc q) → ⊥) → Says w i j (x ∷ c) none
    nowhere f zero h r = false≢true (sym off ∙ r.there)
    nowhere f (suc q) h r = f q h r

    smallest : (p : ℕ) → ((q : ℕ) → Reached i j c q → p ≤ q) → (q : ℕ) → Reached i j (x ∷ c) q → suc p ≤ q
    smallest p f zero r = absurd (false≢true (sym off ∙ r.there))
    smallest p f (suc q) r = omega (arith, f q (behind q r))

    risen : i (x ∷ c) ≡ true → (n : Counter) → Says w i j c n → Says w i j (x ∷ c) (rise w n)
    risen on none s = nowhere (λ q h r. s q (omega arith) (behind q r))
    risen on (count p) s =
        by_cases (dec_lt p w)
        (λ h. rw (lt-ltb p w h, add-one) (h, further p on s.1, smallest p s.2))
        (λ h. rw (le-ltb p w (omega arith)) (nowhere (λ q k r. omega (arith, s.2 q (behind q r)))))

  stepped : (a b : Bool) → i (x ∷ c) ≡ a → j (x ∷ c) ≡ b → (n : Counter) → Says w i j c n → Says w i j (x ∷ c) (next w a b n)
  unfolding next
  stepped a true on there n s = (
    omega arith,
    record { inside = omega arith; there = there; before = λ q h. absurd (omega arith) },
    λ q r. omega arith,
  )
  stepped true false on off n s = risen off on n s
  stepped false false on off n s = nowhere off (λ q h r. false≢true (sym on ∙ r.before 0 (omega arith)))

pub counter_says : (w : ℕ) (i j : Wire) (c : Clip) → Says w i j c (counter w i j c)
unfolding counter
counter_says w i j [] = λ p h r. omega (arith, r.inside)
counter_says w i j (x ∷ c) =
    stepped w i j x c (i (x ∷ c)) (j (x ∷ c)) refl refl (counter w i j c) (counter_says w i j c)

pub later_ago : (d : ℕ) (i : Wire) (c : Clip) → d < length c → later d i c ≡ i (drop d c)
unfolding later
later_ago d i c h = rw (lt-ltb d (length c) h)

pub later_none : (d : ℕ) (i : Wire) (c : Clip) → length c ≤ d → later d i c ≡ false
unfolding later
later_none d i c h = rw (le-ltb d (length c) h)
