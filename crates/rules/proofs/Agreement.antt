-- The computed meaning agrees with the worded one: each Boolean connective agrees with its logical one, and `within` with a
-- place found, by recursion on the window; a shift of that place by the window's start gives until, and with negations the rest.
use mathlib.Core.Path.{◌≡◌, refl}
use mathlib.Core.Bool.{Bool, true, false, not, ◌&&◌, ◌||◌, false≢true}
use mathlib.Core.List.{[], ◌∷◌}
use mathlib.Core.Logic.Iff
use mathlib.Core.Logic.{◌↔◌, ◌⊎◌, inl, inr, ⊎_elim}
use Prim.Native.Nat.{ℕ, zero, suc, ◌+◌, ◌-◌, ◌≤◌, ◌<◌}
use native.Mathlib.Omega.{arith}
use lib.ListN.{length, drop, length-drop}
use lib.Seq.{drop-drop}
use Rattle.rules.specs.Formula.{Formula, True, False, Flag, Not, And, Or, Until, Release, Eventually, Globally}
use Rattle.ground.specs.Frames.{Clip}
use Rattle.rules.specs.Meaning.{Reaches, Holds, within, reaches, holds}

-- The Boolean connectives, each beside the logical one

sure : (true ≡ true) ↔ Unit {0}
sure = (λ _. tt, λ _. refl)

never : (false ≡ true) ↔ ⊥
never = (λ h. false≢true h, λ h. absurd h)

denied : (x : Bool) {A : Type 0} → (x ≡ true) ↔ A → (not x ≡ true) ↔ (A → ⊥)
denied true e = (λ h. absurd (false≢true h), λ h. absurd (h (e.0 refl)))
denied false e = (λ _ a. false≢true (e.1 a), λ _. refl)

both : (x y : Bool) {A B : Type 0} → (x ≡ true) ↔ A → (y ≡ true) ↔ B → ((x && y) ≡ true) ↔ (A × B)
both true y e k = (λ h. (e.0 refl, k.0 h), λ p. k.1 p.1)
both false y e k = (λ h. absurd (false≢true h), λ p. e.1 p.0)

either : (x y : Bool) {A B : Type 0} → (x ≡ true) ↔ A → (y ≡ true) ↔ B → ((x || y) ≡ true) ↔ (A ⊎ B)
either true y e k = (λ h. inl (e.0 refl), λ _. refl)
either false y e k = (λ h. inr (k.0 h), ⊎_elim (λ a. absurd (false≢true (e.1 a))) k.1)

-- One of the first n places of a clip has R, and each place before it has L
pub record Found (n : ℕ) (L R : Clip → Type 0) (d : Clip) : Type 0 where
  pub place : ℕ
  pub near : place < n
  pub inside : place < length d
  pub right : R (drop place d)
  pub left : (j : ℕ) → j < place → L (drop j d)

module _ (L R : Clip → Type 0) where
  -- The place found is the first one, or it lies in the rest
  first_or_rest : (n x : ℕ) (d : Clip) → (R (x ∷ d) ⊎ (L (x ∷ d) × Found n L R d)) ↔ Found (suc n) L R (x ∷ d)
  first_or_rest n x d = (⊎_elim first rest, λ w. split w.place w.near w.inside w.right w.left)
    where
      first : R (x ∷ d) → Found (suc n) L R (x ∷ d)
      first h = record { place = 0; near = omega arith; inside = omega arith; right = h; left = λ j k. absurd (omega arith) }

      rest : L (x ∷ d) × Found n L R d → Found (suc n) L R (x ∷ d)
      rest p = record { place = suc p.1.place; near = omega arith; inside = omega arith; right = p.1.right; left = before }
        where
          before : (j : ℕ) → j < suc p.1.place → L (drop j (x ∷ d))
          before zero k = p.0
          before (suc j) k = p.1.left j (omega arith)

      split : (p : ℕ) → p < suc n → p < suc (length d) → R (drop p (x ∷ d)) → ((j : ℕ) → j < p → L (drop j (x ∷ d)))
          → R (x ∷ d) ⊎ (L (x ∷ d) × Found n L R d)
      split zero _ _ h _ = inl h
      split (suc p) k i h f =
          inr (
            f 0 (omega arith),
            record { place = p; near = omega arith; inside = omega arith; right = h; left = λ j b. f (suc j) (omega arith) },
          )

  -- A place found in the clip from a on is a place of the window [a,b]
  from_start : (a b : ℕ) (c : Clip) → Found (suc b - a) L R (drop a c) ↔ Reaches a b L R c
  from_start a b c = (out, back)
    where
      shift : (p : ℕ) → a ≤ p → drop (p - a) (drop a c) ≡ drop p c
      shift p h = let e : a + (p - a) ≡ p = omega arith in rw (drop-drop, e)

      out : Found (suc b - a) L R (drop a c) → Reaches a b L R c
      out w =
          let i : w.place < length c - a = rw (length-drop a c) at w.inside in
          record {
            longer = omega arith;
            place = a + w.place;
            from = omega arith;
            upto = omega arith;
            inside = omega arith;
            right = rw drop-drop at w.right;
            left = λ j h k. rw (shift j h) at (w.left (j - a) (omega arith));
          }

      back : Reaches a b L R c → Found (suc b - a) L R (drop a c)
      back w =
          record {
            place = w.place - a;
            near = omega arith;
            inside = rw length-drop (omega arith);
            right = rw (shift w.place w.from) w.right;
            left = λ j k. rw drop-drop (w.left (a + j) (omega arith) (omega arith));
          }

-- The law of the four timed kinds
module _ {l r : Clip → Bool} {L R : Clip → Type 0} (ls : (d : Clip) → (l d ≡ true) ↔ L d) (rs : (d : Clip) → (r d ≡ true) ↔ R d) where
  pub found : (n : ℕ) (d : Clip) → (within n l r d ≡ true) ↔ Found n L R d
  unfolding within
  found zero d = (λ h. absurd (false≢true h), λ w. absurd (omega arith))
  found (suc n) [] = (λ h. absurd (false≢true h), λ w. absurd (omega arith))
  found (suc n) (x ∷ d) =
      Iff.trans (either _ _ (rs (x ∷ d)) (both _ _ (ls (x ∷ d)) (found n d))) (first_or_rest L R n x d)

  timed : (a b : ℕ) (c : Clip) → (reaches a b l r c ≡ true) ↔ Reaches a b L R c
  unfolding reaches
  timed a b c = Iff.trans (found (suc b - a) (drop a c)) (from_start L R a b c)

pub agreement : (f : Formula) (c : Clip) → (holds f c ≡ true) ↔ Holds f c
unfolding holds Holds
agreement True c = sure
agreement False c = never
agreement (Flag k) c = Iff.rfl
agreement (Not f) c = denied _ (agreement f c)
agreement (And f g) c = both _ _ (agreement f c) (agreement g c)
agreement (Or f g) c = either _ _ (agreement f c) (agreement g c)
agreement (Until a b f g) c = timed (agreement f) (agreement g) a b c
agreement (Release a b f g) c = denied _ (timed (λ d. denied _ (agreement f d)) (λ d. denied _ (agreement g d)) a b c)
agreement (Eventually a b g) c = timed (λ d. sure) (agreement g) a b c
agreement (Globally a b g) c = denied _ (timed (λ d. denied false never) (λ d. denied _ (agreement g d)) a b c)
