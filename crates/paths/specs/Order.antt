-- The order of clips. The second demand: "the shortest, and of those the first when frames are compared from the last
-- backwards". `proofs/Order.antt` shows that the recursion here says just that.
use Rattle.std.specs.Prelude.{◌≡◌, [], ◌∷◌, ◌⊎◌, ◌<◌}
use Rattle.ground.specs.Frames.{Clip}

-- A clip comes before another: it is shorter, or as long and the first when frames are compared from the last
-- backwards. The frame that is compared last is the head.
unfoldable pub Less : Clip → Clip → Type 0
Less [] [] = ⊥
Less [] (d ∷ v) = Unit {0}
Less (b ∷ u) [] = ⊥
Less (b ∷ u) (d ∷ v) = Less u v ⊎ ((u ≡ v) × (b < d))
