-- Chains that go down, over any rule by which a number has a bucket: a bucket's head is the last number in it, and each
-- number's link the one before it in its bucket, if any. Contracts of inner functions cite it; the answers say nothing
-- of it.
use Rattle.std.specs.Prelude.{◌≡◌, Option, Some, None, ℕ, ◌<◌}

-- The last number below k that has a property, if any has
abbrev pub Last : (ℕ → Type 0) → ℕ → Option ℕ → Type 0
Last P k (Some n) = (n < k) × P n × ((m : ℕ) → n < m → m < k → P m → ⊥)
Last P k None = (n : ℕ) → n < k → P n → ⊥

-- The last number below k in a bucket, if any
abbrev pub LastIn : (ℕ → ℕ) → ℕ → ℕ → Option ℕ → Type 0
LastIn bucket b = Last (λ n. bucket n ≡ b)

-- Heads of so many buckets and links of so many numbers
pub record Chained (bucket : ℕ → ℕ) (head link : ℕ → Option ℕ) (buckets stored : ℕ) : Type 0 where
  pub heads : (b : ℕ) → b < buckets → LastIn bucket b stored (head b)
  pub links : (m : ℕ) → m < stored → LastIn bucket (bucket m) m (link m)
