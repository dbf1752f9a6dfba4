-- Chains that go down: a walk from a bucket's head meets every number in the bucket, since none lies between two links; and a new number goes in front.
use mathlib.Core.Path.{◌≡◌, refl, ap, sym, subst, ◌∙◌}
use mathlib.Core.Logic.{by_cases}
use Prim.Native.Nat.{ℕ, ◌+◌, ◌≤◌, ◌<◌}
use native.Mathlib.Decide.{dec_lt, ℕ_discrete}
use native.Mathlib.Omega.{arith}
use Rattle.std.proofs.Common.{Option, Some, None}
use Rattle.table.specs.Inner.Chains.{Last, LastIn, Chained}

-- There is one last number with a property at most
pub last_one : (P : ℕ → Type 0) (k : ℕ) (o p : Option ℕ) → Last P k o → Last P k p → o ≡ p
last_one P k (Some m) (Some n) (m_less, m_own, m_last) (n_less, n_own, n_last) =
    by_cases (dec_lt m n) (λ h. absurd (m_last n h n_less n_own)) λ h.
    by_cases (dec_lt n m) (λ l. absurd (n_last m l m_less m_own)) λ l.
    let same : m ≡ n = omega arith in
    ap Some same
last_one P k (Some m) None a b = absurd (b m a.0 a.1)
last_one P k None (Some n) a b = absurd (a n b.0 b.1)
last_one P k None None a b = refl

-- The last number below k with a property
module _ (P : ℕ → Type 0) {k : ℕ} where
  -- is the last one with a property that the same numbers have
  last_like : (Q : ℕ → Type 0) → ((n : ℕ) → n < k → P n → Q n) → ((n : ℕ) → n < k → Q n → P n) → (o : Option ℕ) → Last P k o → Last Q k o
  last_like Q to from (Some n) (less, own, last) = (less, to n less own, λ m above below h. last m above below (from m below h))
  last_like Q to from None none = λ n less h. none n less (from n less h)

  -- k itself is the last one below k and one more if it has the property, and else the same one is
  last_here : P k → Last P (k + 1) (Some k)
  last_here own = (omega arith, own, λ m above less h. absurd (omega arith))

  last_on : (P k → ⊥) → (o : Option ℕ) → Last P k o → Last P (k + 1) o
  last_on other o last = on o last
    where
      none_at : (m : ℕ) → m < k + 1 → (m < k → ⊥) → P m → ⊥
      none_at m less high h = let same : m ≡ k = omega arith in other (subst P same h)

      on : (o : Option ℕ) → Last P k o → Last P (k + 1) o
      on (Some n) (less, own, last) = (omega arith, own, λ m above below h. by_cases (dec_lt m k) (λ low. last m above low h) λ high. none_at m below high h)
      on None none = λ n less h. by_cases (dec_lt n k) (λ low. none n low h) λ high. none_at n less high h

-- How far a walk down has to go at most: it is at a number, or at the end
abbrev pub height : Option ℕ → ℕ
height (Some n) = n + 1
height None = 0

pub last_lower : (P : ℕ → Type 0) {k : ℕ} (o : Option ℕ) → Last P k o → height o ≤ k
last_lower P (Some n) last = omega (arith, last.0)
last_lower P None none = omega arith

-- A walk down a chain for a number that is looked for: it is at one of the chain's numbers or at the end, and has passed none that is looked for
abbrev pub Down : (ℕ → Type 0) → (ℕ → Type 0) → ℕ → Option ℕ → Type 0
Down Own Looked k (Some n) = (n < k) × Own n × ((m : ℕ) → n < m → m < k → Looked m → ⊥)
Down Own Looked k None = (n : ℕ) → n < k → Looked n → ⊥

-- All that are looked for are in the chain
module _ {Own Looked : ℕ → Type 0} {k : ℕ} (inside : (n : ℕ) → n < k → Looked n → Own n) where
  pub walk_first : (o : Option ℕ) → Last Own k o → Down Own Looked k o
  walk_first (Some n) (less, own, last) = (less, own, λ m above below looked. last m above below (inside m below looked))
  walk_first None none = λ n less looked. none n less (inside n less looked)

  pub walk_more : {n : ℕ} → Down Own Looked k (Some n) → (Looked n → ⊥) → (o : Option ℕ) → Last Own n o → Down Own Looked k o
  walk_more {n} (n_less, n_own, passed) miss o last = more o last
    where
      rest : (i : ℕ) → i < k → (i < n → ⊥) → Looked i → ⊥
      rest i less high looked = by_cases (ℕ_discrete i n) (λ e. miss (subst Looked e looked)) λ other. passed i (omega arith) less looked

      more : (o : Option ℕ) → Last Own n o → Down Own Looked k o
      more (Some m) (less, own, last) = (
        omega arith,
        own,
        λ i above below looked. by_cases (dec_lt i n) (λ low. last i above low (inside i below looked)) λ high. rest i below high looked,
      )
      more None none = λ i below looked. by_cases (dec_lt i n) (λ low. none i low (inside i below looked)) λ high. rest i below high looked

-- No number is in the chains yet
pub chained_none : (bucket : ℕ → ℕ) (head link : ℕ → Option ℕ) (buckets : ℕ) → ((b : ℕ) → b < buckets → head b ≡ None) → Chained bucket head link buckets 0
chained_none bucket head link buckets empty =
    record { heads = λ b h. rw (empty b h) (λ n less. absurd (omega arith)); links = λ m h. absurd (omega arith) }

-- A new number goes in front of its bucket
module _ {bucket : ℕ → ℕ} {head link : ℕ → Option ℕ} {buckets stored : ℕ} (c : Chained bucket head link buckets stored) (bucket' : ℕ → ℕ)
    (head' link' : ℕ → Option ℕ) (b : ℕ) (same-bucket : (m : ℕ) → m < stored → bucket' m ≡ bucket m)
    (same_link : (m : ℕ) → m < stored → link' m ≡ link m)
    (own-bucket : bucket' stored ≡ b) (b-inside : b < buckets) (own_link : link' stored ≡ head b) (own-head : head' b ≡ Some stored)
    (same_head : (x : ℕ) → x < buckets → (x ≡ b → ⊥) → head' x ≡ head x) where
  -- what is last among the old ones is so by the new buckets
  still : (x : ℕ) {k : ℕ} → k ≤ stored → (o : Option ℕ) → LastIn bucket x k o → LastIn bucket' x k o
  still x few = last_like _ _ (λ n less e. same-bucket n (omega arith) ∙ e) (λ n less e. sym (same-bucket n (omega arith)) ∙ e)

  pub chained_more : Chained bucket' head' link' buckets (stored + 1)
  chained_more =
      record {
        heads = λ x h. by_cases (ℕ_discrete x b) (λ e. rw (e, own-head) (last_here _ own-bucket)) λ other.
            rw (same_head x h other) (last_on _ (λ e. other (sym e ∙ own-bucket)) (head x) (still x (omega arith) (head x) (c.heads x h)));
        links = λ m h. by_cases (dec_lt m stored)
            (λ low. rw (same_link m low, same-bucket m low) (still (bucket m) (omega arith) (link m) (c.links m low)))
            λ high. let same : m ≡ stored = omega arith in
            rw (same, own_link, own-bucket) (still b (omega arith) (head b) (c.heads b b-inside));
      }
