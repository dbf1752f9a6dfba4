-- Counting distinct states: of two lists of clips, the states of the one all among those of the other and no two alike, the first is no longer. Each state of
-- the first takes one out of the second.
use mathlib.Core.Path.{◌≡◌, refl}
use mathlib.Core.List.{List, [], ◌∷◌}
use Prim.Native.Nat.{ℕ, zero, suc, ◌≤◌, ◌<◌}
use native.Mathlib.Omega.{arith}
use lib.ListN.{length, get_or}
use Rattle.ground.proofs.Each.{each_at}
use Rattle.ground.specs.Frames.{Clip}
use Rattle.paths.specs.Answers.{Short, Distinct, Counts, Outnumber}

-- A list without the element at a place
abbrev without : {A : Type 0} → List A → ℕ → List A
without [] j = []
without (x ∷ xs) zero = xs
without (x ∷ xs) (suc j) = x ∷ without xs j

without_length : {A : Type 0} (xs : List A) (j : ℕ) → j < length xs → length xs ≡ suc (length (without xs j))
without_length [] j h = omega arith
without_length (x ∷ xs) zero h = refl
without_length (x ∷ xs) (suc j) h = omega (arith, without_length xs j (omega arith))

-- The element at any other place is still there
stays : {A : Type 0} (d : A) (xs : List A) (j k : ℕ) → k < length xs → (j ≡ k → ⊥) → (i : ℕ) × (i < length (without xs j))
    × (get_or (without xs j) i d ≡ get_or xs k d)
stays d [] j k h other = absurd (omega arith)
stays d (x ∷ xs) zero zero h other = absurd (other refl)
stays d (x ∷ xs) zero (suc k) h other = (k, omega arith, refl)
stays d (x ∷ xs) (suc j) zero h other = (0, omega arith, refl)
stays d (x ∷ xs) (suc j) (suc k) h other = let (i, inside, same) = stays d xs j k (omega arith) (omega arith) in (suc i, omega arith, same)

module _ {S : Type 0} (state : Clip → S) where
  no_longer : (u v : List Clip) → ((i j : ℕ) → i < j → j < length u → state (get_or u i []) ≡ state (get_or u j []) → ⊥)
      → ((i : ℕ) → i < length u → (j : ℕ) × (j < length v) × (state (get_or v j []) ≡ state (get_or u i []))) → length u ≤ length v
  no_longer [] v different among = omega arith
  no_longer (x ∷ u) v different among =
      let (j, inside, same) = among 0 (omega arith) in
      omega (
        arith,
        without_length v j inside,
        no_longer u (without v j) (λ i k h l. different (suc i) (suc k) (omega arith) (omega arith)) λ i h.
            let (k, l, alike) = among (suc i) (omega arith) in
            let (m, n, is) = stays [] v j k l (λ e. different 0 (suc i) (omega arith) (omega arith) cc) in
            (m, n, cc),
      )

-- The empty sequence is shorter than every satisfying clip
pub empty_short : (Meets : Clip → Type 0) → Short Meets []
empty_short Meets = record { bytes = λ i. omega arith; shorter = λ d s. omega (arith, s.some) }

module _ {S : Type 0} (state : Clip → S) (Meets : Clip → Type 0) where
  -- No list of distinct states is longer than their count
  pub at_most : (n : ℕ) (clips : List Clip) → Counts state Meets n → Distinct state Meets clips → length clips ≤ n
  at_most n clips count distinct =
      rw (← count.number) (no_longer state clips count.clips distinct.different λ i h.
      let (j, inside, same) = count.all (get_or clips i []) (each_at (Short Meets) clips [] i distinct.short h) in
      (j, omega arith, same))

  -- There is one count
  pub one_count : (n m : ℕ) → Counts state Meets n → Counts state Meets m → n ≡ m
  one_count n m h k = omega (arith, at_most n k.clips h k.distinct, at_most m h.clips k h.distinct)

  -- States that outnumber the room are not counted within it
  pub not_within : (n room : ℕ) → Counts state Meets n → n ≤ room → Outnumber state Meets room → ⊥
  not_within n room count h more = omega (arith, at_most n more.clips count more.distinct)

  -- The fresh state is counted
  pub fresh_counted : (n : ℕ) → Counts state Meets n → 1 ≤ n
  fresh_counted n count = let (i, inside, _) = count.all [] (empty_short Meets) in omega (arith, inside)
