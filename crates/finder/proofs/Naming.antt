-- A byte with a flag that code does not name leads where a smaller byte leads. A step sees only the flags that its code names, and a byte without one of its
-- flags has its other flags as before and is smaller.
use mathlib.Core.Path.{◌≡◌, refl, ap, ◌∙◌, sym, subst}
use mathlib.Core.Bool.{Bool, true, false, false≢true}
use mathlib.Core.List.{List, [], ◌∷◌}
use Prim.Native.Nat.{ℕ, zero, suc, ◌+◌, ◌*◌, ◌/◌, ◌%◌, ◌^◌, ◌<◌}
use native.Mathlib.Nat.{div-div-eq-div-mul, pow-succ'}
use native.Mathlib.Omega.{arith}
use borrow.Author.Tests.{eqb-true}
use lib.ListN.{length, get_or}
use Rattle.ground.specs.Frames.{has_flag}
use Rattle.paths.specs.Inner.Searching.{frame_bytes}
use Rattle.code.specs.declared.instruction.Instruction.{Instruction}
use Rattle.code.specs.declared.instruction.Instruction.TheVariants.{One, Flag, Nand, Reach, Later}
use Rattle.code.specs.Code.{Code}
use Rattle.code.specs.declared.instruction.Instruction.{Instruction}
use Rattle.code.specs.declared.instruction.Instruction.TheVariants.{One, Flag, Nand, Reach, Later}
use Rattle.sequencer.specs.Registers.{Working, execute, executed}
use Rattle.finder.specs.Inner.Flags.{flags, Names, NamedBy, Passed, PassesOver}

-- A step sees only the flags that its code names

sees_one : (i : Instruction) (x y : ℕ) → ((k : ℕ) → i ≡ Flag k → has_flag k x ≡ has_flag k y) → (s : Working) → execute x s i ≡ execute y s i
unfolding execute
sees_one One x y same s = refl
sees_one (Flag k) x y same s = rw (same k refl)
sees_one (Nand i j) x y same s = refl
sees_one (Reach i j w) x y same s = refl
sees_one (Later i d) x y same s = refl

pub sees_named : (code : Code) (x y : ℕ) → ((k : ℕ) → Names code k → has_flag k x ≡ has_flag k y) → (s : Working) → executed x code s ≡ executed y code s
unfolding executed
sees_named [] x y same s = refl
sees_named (i ∷ is) x y same s =
    rw (sees_one i x y (λ k e. same k (0, omega arith, e)) s)
    (sees_named is x y (λ k n. same k (suc n.0, omega (arith, n.1), n.2)) (execute y s i))

-- A byte without flag k

without : ℕ → ℕ → ℕ
without zero b = 2 * (b / 2)
without (suc k) b = b % 2 + 2 * without k (b / 2)

-- flag k + 1 of a byte is flag k of its half
flag_half : (k b : ℕ) → has_flag (suc k) b ≡ has_flag k (b / 2)
unfolding has_flag
flag_half k b = rw (pow-succ' 2 k, ← div-div-eq-div-mul b 2 (2 ^ k))

-- flag 0 is whether a byte is odd
flag_odd : (b c : ℕ) → b % 2 ≡ c % 2 → has_flag 0 b ≡ has_flag 0 c
unfolding has_flag
flag_odd b c e =
    let q : b / 1 % 2 ≡ c / 1 % 2 = omega arith in
    rw q

without_same : (k j b : ℕ) → (j ≡ k → ⊥) → has_flag j (without k b) ≡ has_flag j b
unfolding without
without_same zero zero b h = absurd (h refl)
without_same zero (suc j) b h =
    let half : 2 * (b / 2) / 2 ≡ b / 2 = omega arith in
    rw (flag_half j (2 * (b / 2)), half, flag_half j b)
without_same (suc k) zero b h = flag_odd (b % 2 + 2 * without k (b / 2)) b (omega arith)
without_same (suc k) (suc j) b h =
    let half : (b % 2 + 2 * without k (b / 2)) / 2 ≡ without k (b / 2) = omega arith in
    rw (flag_half j (b % 2 + 2 * without k (b / 2)), half, flag_half j b) (without_same k j (b / 2) (λ e. h (ap suc e)))

odd : (b : ℕ) → has_flag 0 b ≡ true → b % 2 ≡ 1
unfolding has_flag
odd b h = omega (arith, eqb-true (b / 1 % 2) 1 h)

without_less : (k b : ℕ) → has_flag k b ≡ true → without k b < b
unfolding without
without_less zero b h = omega (arith, odd b h)
without_less (suc k) b h = omega (arith, without_less k (b / 2) (sym (flag_half k b) ∙ h))

-- A byte that is passed over leads where a smaller byte leads

pub passed_alike : (code : Code) (passed : List Bool) → PassesOver code passed → (b : ℕ) → b < frame_bytes → get_or passed b false ≡ true → (x : ℕ) × (x < b)
    × ((s : Working) → executed x code s ≡ executed b code s)
passed_alike code passed over b h e =
    let o = over.own b h e in
    let k = o.0 in
    (without k b, without_less k b o.1, sees_named code (without k b) b (λ j n. without_same k j b (λ q. o.2 (subst (Names code) q n))))

pub passes_over : (code : Code) (named passed : List Bool) → NamedBy code named → Passed named passed frame_bytes → PassesOver code passed
passes_over code named passed n p =
    record {
      all = p.all;
      own = λ byte h e. let o = p.own byte h e in (o.0, o.1, λ m. false≢true (sym o.2 ∙ n.own o.0 m));
    }

-- The flags of the first n instructions are named
pub record NamedTo (code : Code) (n : ℕ) (named : List Bool) : Type 0 where
  pub all : length named ≡ flags
  pub own : (m : ℕ) → m < n → (k : ℕ) → get_or code m One ≡ Flag k → get_or named k false ≡ true
