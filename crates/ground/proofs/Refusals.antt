-- The numbers of the refusals are 1 to 16.
use Prim.Native.Nat.{◌≤◌}
use native.Mathlib.Omega.{arith}
use Rattle.ground.specs.Refusals.{number_of}
use Rattle.ground.specs.declared.refusal.Refusal.{Refusal}

pub numbered : (r : Refusal) → (1 ≤ number_of r) × (number_of r ≤ 16)
numbered Refusal.Empty = (omega arith, omega arith)
numbered (Refusal.UnknownCode at) = (omega arith, omega arith)
numbered (Refusal.CutShort at) = (omega arith, omega arith)
numbered (Refusal.NotShortest at) = (omega arith, omega arith)
numbered (Refusal.FlagTooLarge at) = (omega arith, omega arith)
numbered (Refusal.BadWindow at) = (omega arith, omega arith)
numbered (Refusal.TooFewOperands at) = (omega arith, omega arith)
numbered (Refusal.RuleTooLarge at) = (omega arith, omega arith)
numbered (Refusal.NotOneValue at) = (omega arith, omega arith)
numbered (Refusal.NotEarlier at) = (omega arith, omega arith)
numbered (Refusal.BadWidth at) = (omega arith, omega arith)
numbered (Refusal.CodeTooLarge at) = (omega arith, omega arith)
numbered Refusal.BadClip = (omega arith, omega arith)
numbered Refusal.ShortWitness = (omega arith, omega arith)
numbered Refusal.NoRoom = (omega arith, omega arith)
numbered Refusal.ShortOutput = (omega arith, omega arith)
