-- A counter that is kept as a number and is not "none" has a count.
use mathlib.Core.Path.{◌≡◌, refl, ap}
use Prim.Native.Nat.{ℕ, zero, suc, ◌-◌}
use native.Mathlib.Omega.{arith}
use Rattle.sequencer.specs.Bits.{count}
use Rattle.sequencer.specs.Registers.{counter_of}

pub counter_some : (n : ℕ) → (n ≡ 0 → ⊥) → counter_of n ≡ count (n - 1)
counter_some zero h = absurd (h refl)
counter_some (suc n) h =
    let e : n ≡ suc n - 1 = omega arith in
    ap count e
