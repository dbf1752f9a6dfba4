-- The meaning of a rule on a clip, twice: `Holds` as document 002, section 2, words it, and `holds`, a test that
-- computes. `proofs/Agreement.antt` shows that the two agree. A clip is the list of its frames, the earliest first;
-- "the clip from i" is `drop i`. Document 01: "l until[a,b] r holds if n > a and some place p, a ≤ p ≤ b, p < n, has r
-- on the clip from i+p, and l holds on the clip from i+j for each j with a ≤ j < p."
use Rattle.std.specs.Prelude.{◌≡◌, Bool, true, false, not, ◌&&◌, ◌||◌, [], ◌∷◌, ◌⊎◌, ℕ, zero, suc, ◌-◌, ◌≤◌, ◌<◌}
use Rattle.std.specs.Prelude.{length, get_or, drop}
use Rattle.ground.specs.Frames.{Clip, has_flag}
use Rattle.rules.specs.Formula.{Formula, True, False, Flag, Not, And, Or, Until, Release, Eventually, Globally}

-- l until[a,b] r on a clip: a place p of the window with r, and l at each place of the window before it
pub record Reaches (a b : ℕ) (l r : Clip → Type 0) (c : Clip) : Type 0 where
  pub longer : a < length c
  pub place : ℕ
  pub from : a ≤ place
  pub upto : place ≤ b
  pub inside : place < length c
  pub right : r (drop place c)
  pub left : (j : ℕ) → a ≤ j → j < place → l (drop j c)

-- l release[a,b] r is not((not l) until[a,b] (not r))
abbrev pub Releases : ℕ → ℕ → (Clip → Type 0) → (Clip → Type 0) → Clip → Type 0
Releases a b l r c = Reaches a b (λ d. l d → ⊥) (λ d. r d → ⊥) c → ⊥

-- The meaning, as the paper words it; eventually is true until, globally is false release
unfoldable pub Holds : Formula → Clip → Type 0
Holds True c = Unit {0}
Holds False c = ⊥
Holds (Flag k) c = has_flag k (get_or c 0 0) ≡ true
Holds (Not f) c = Holds f c → ⊥
Holds (And f g) c = Holds f c × Holds g c
Holds (Or f g) c = Holds f c ⊎ Holds g c
Holds (Until a b l r) c = Reaches a b (Holds l) (Holds r) c
Holds (Release a b l r) c = Releases a b (Holds l) (Holds r) c
Holds (Eventually a b r) c = Reaches a b (λ d. Unit {0}) (Holds r) c
Holds (Globally a b r) c = Releases a b (λ d. ⊥) (Holds r) c

-- Whether one of the first n places of a clip has r, with l at each place before it
unfoldable pub within : ℕ → (Clip → Bool) → (Clip → Bool) → Clip → Bool
within zero l r c = false
within (suc n) l r [] = false
within (suc n) l r (x ∷ c) = r (x ∷ c) || (l (x ∷ c) && within n l r c)

-- l until[a,b] r, computed: the window has suc b - a places, from place a on
unfoldable pub reaches : ℕ → ℕ → (Clip → Bool) → (Clip → Bool) → Clip → Bool
reaches a b l r c = within (suc b - a) l r (drop a c)

-- The meaning, computed
unfoldable pub holds : Formula → Clip → Bool
holds True c = true
holds False c = false
holds (Flag k) c = has_flag k (get_or c 0 0)
holds (Not f) c = not (holds f c)
holds (And f g) c = holds f c && holds g c
holds (Or f g) c = holds f c || holds g c
holds (Until a b l r) c = reaches a b (holds l) (holds r) c
holds (Release a b l r) c = not (reaches a b (λ d. not (holds l d)) (λ d. not (holds r d)) c)
holds (Eventually a b r) c = reaches a b (λ d. true) (holds r) c
holds (Globally a b r) c = not (reaches a b (λ d. true) (λ d. not (holds r d)) c)
