-- The order of clips is what its words say, and it is a strict total order.
use mathlib.Core.Path.{◌≡◌, refl, sym, ◌∙◌}
use mathlib.Core.List.{[], ◌∷◌}
use mathlib.Core.Logic.{◌⊎◌, inl, inr, ⊎_elim, ⊎_map, by_cases, ◌↔◌}
use Prim.Native.Nat.{ℕ, zero, suc, ◌+◌, ◌≤◌, ◌<◌}
use native.Mathlib.Nat.{suc-add}
use native.Mathlib.Decide.{dec_lt}
use native.Mathlib.Omega.{arith}
use lib.ListN.{length, get_or, drop}
use Rattle.ground.specs.Frames.{Clip}
use Rattle.paths.specs.Order.{Less}

-- At the last place where two clips differ, the one has the smaller frame
pub record Earlier (u v : Clip) : Type 0 where
  pub place : ℕ
  pub inside : place < length u
  pub behind : drop (place + 1) u ≡ drop (place + 1) v
  pub smaller : get_or u place 0 < get_or v place 0

pub shorter_less : (u v : Clip) → length u < length v → Less u v
unfolding Less
shorter_less [] [] h = omega arith
shorter_less [] (d ∷ v) h = tt
shorter_less (b ∷ u) [] h = omega arith
shorter_less (b ∷ u) (d ∷ v) h = inl (shorter_less u v (omega arith))

pub less_length : (u v : Clip) → Less u v → length u ≤ length v
unfolding Less
less_length [] v h = omega arith
less_length (b ∷ u) [] h = absurd h
less_length (b ∷ u) (d ∷ v) (inl h) = omega (arith, less_length u v h)
less_length (b ∷ u) (d ∷ v) (inr h) = rw h.0 (omega arith)

-- A frame in front of each moves the place by one
earlier_more : (b d : ℕ) (u v : Clip) → Earlier u v → Earlier (b ∷ u) (d ∷ v)
earlier_more b d u v h = record { place = suc h.place; inside = omega arith; behind = rw suc-add h.behind; smaller = h.smaller }

less_earlier : (u v : Clip) → Less u v → (length u < length v) ⊎ ((length u ≡ length v) × Earlier u v)
unfolding Less
less_earlier [] [] h = absurd h
less_earlier [] (d ∷ v) h = inl (omega arith)
less_earlier (b ∷ u) [] h = absurd h
less_earlier (b ∷ u) (d ∷ v) (inl h) = ⊎_map (λ lt. omega arith) (λ e. (omega arith, earlier_more b d u v e.1)) (less_earlier u v h)
less_earlier (b ∷ u) (d ∷ v) (inr h) = inr (cc, record { place = 0; inside = omega arith; behind = h.0; smaller = h.1 })

earlier_less : (u v : Clip) (p : ℕ) → length u ≡ length v → p < length u → drop (p + 1) u ≡ drop (p + 1) v → get_or u p 0 < get_or v p 0 → Less u v
unfolding Less
earlier_less [] v p e i h k = absurd (omega arith)
earlier_less (b ∷ u) [] p e i h k = absurd (omega arith)
earlier_less (b ∷ u) (d ∷ v) zero e i h k = inr (h, k)
earlier_less (b ∷ u) (d ∷ v) (suc p) e i h k = inl (earlier_less u v p (omega arith) (omega arith) (rw suc-add at h) k)

-- Shorter, or as long and the first when frames are compared from the last backwards
pub less_says : (u v : Clip) → Less u v ↔ ((length u < length v) ⊎ ((length u ≡ length v) × Earlier u v))
less_says u v = (less_earlier u v, ⊎_elim (shorter_less u v) λ h. earlier_less u v h.1.place h.0 h.1.inside h.1.behind h.1.smaller)

-- A strict total order

pub less_not : (u : Clip) → Less u u → ⊥
unfolding Less
less_not [] h = h
less_not (b ∷ u) (inl h) = less_not u h
less_not (b ∷ u) (inr h) = omega arith

pub less_trans : (u v w : Clip) → Less u v → Less v w → Less u w
unfolding Less
less_trans [] [] w h k = absurd h
less_trans [] (d ∷ v) [] h k = absurd k
less_trans [] (d ∷ v) (e ∷ w) h k = tt
less_trans (b ∷ u) [] w h k = absurd h
less_trans (b ∷ u) (d ∷ v) [] h k = absurd k
less_trans (b ∷ u) (d ∷ v) (e ∷ w) (inl h) (inl k) = inl (less_trans u v w h k)
less_trans (b ∷ u) (d ∷ v) (e ∷ w) (inl h) (inr k) = inl (rw k.0 at h)
less_trans (b ∷ u) (d ∷ v) (e ∷ w) (inr h) (inl k) = inl (rw h.0 k)
less_trans (b ∷ u) (d ∷ v) (e ∷ w) (inr h) (inr k) = inr (h.0 ∙ k.0, omega arith)

pub less_or : (u v : Clip) → (Less u v ⊎ (u ≡ v)) ⊎ Less v u
unfolding Less
less_or [] [] = inl (inr refl)
less_or [] (d ∷ v) = inl (inl tt)
less_or (b ∷ u) [] = inr tt
less_or (b ∷ u) (d ∷ v) = go (less_or u v)
  where
    go : (Less u v ⊎ (u ≡ v)) ⊎ Less v u → ((Less u v ⊎ ((u ≡ v) × (b < d))) ⊎ (◌≡◌ {A = Clip} (b ∷ u) (d ∷ v))) ⊎ (Less v u ⊎ ((v ≡ u) × (d < b)))
    go (inl (inl h)) = inl (inl (inl h))
    go (inl (inr e)) =
        by_cases (dec_lt b d) (λ lt. inl (inl (inr (e, lt)))) λ ge. by_cases (dec_lt d b) (λ gt. inr (inr (sym e, gt))) λ le.
        let same : b ≡ d = omega arith in inl (inr cc)
    go (inr h) = inr (inl h)
