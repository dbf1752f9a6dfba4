-- `has_other` meets its contract: where it answers true, a flag of the byte is at hand that is not named.
use mathlib.Core.Path.{◌≡◌, refl}
use mathlib.Core.Bool.{Bool, true, false}
use mathlib.Core.List.{List}
use Prim.Native.Nat.{ℕ}
use lib.ListN.{get_or}
use Rattle.std.proofs.Common.{rules, tests}
use Rattle.std.specs.List.{HoldsAt, range_with_len}
use Rattle.std.proofs.lemmas.Bool.{MatchBool-at_true}
use Rattle.std.proofs.lemmas.Iterator.{cases_from_any, YieldsList-from_range}
use Rattle.ground.specs.Frames.{has_flag}
use Rattle.finder.specs.Inner.Flags.{flags, HasOther}
use Rattle.finder.proofs.flags.has_other.Goals as goal

-- a flag of a byte that is not named
abbrev Unnamed : List Bool → ℕ → ℕ → Type 0
Unnamed named byte k = (has_flag k byte ≡ true) × (get_or named k false ≡ false)

-- what holds at a place among the flags holds of a flag
at_place : (named : List Bool) (byte : ℕ) (i : ℕ) → HoldsAt (Unnamed named byte) (range_with_len 0 flags) i → HasOther named byte
at_place named byte i h = let (own, unnamed) = h 0 in (get_or (range_with_len 0 flags) i 0, own, unnamed)

pub returns : goal.returns
unfolding has_flag
returns c = λ e.
    let found =
    MatchBool-at_true _ _ e
    (cases_from_any _ _ _ (Unnamed c.args.named.now c.args.byte) (λ k. Unit {0}) c.any.ensures.ran (YieldsList-from_range 0 flags flags refl refl)
    (λ k q h. search (rules, tests)) (λ k q h. search (rules, tests))) in
    at_place _ _ found.0 found.2
