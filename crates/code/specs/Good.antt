-- What holds of code that no test has refused so far, and so of all accepted code. The contracts of `decode`, by
-- `Sound`, and of inner functions cite it; `load_code` says nothing of it.
use Rattle.std.specs.Prelude.{ℕ, ◌+◌, ◌≤◌, ◌<◌, length, get_or, take}
use Rattle.ground.specs.Each.{Each}
use Rattle.ground.specs.Limits.{limits}
use Rattle.code.specs.declared.instruction.Instruction.{Instruction}
use Rattle.code.specs.declared.instruction.Instruction.TheVariants.{One, Flag, Nand, Reach, Later}
use Rattle.code.specs.Code.{Code}
use Rattle.code.specs.Loading.{reach_of, distance_of, reaches_in, distance_in}
use Rattle.code.specs.declared.check.CodeCounts.{CodeCounts}

-- Counts of code that is not too large
pub record CodeWithin (c : CodeCounts) : Type 0 where
  pub instructions : c.instructions ≤ limits.instructions
  pub reaches : c.reaches ≤ limits.counters
  pub distance : c.distance ≤ limits.delays

-- An instruction that fits behind n others: its operands are among them, and its flag, width and distance in range
abbrev pub FitsBehind : ℕ → Instruction → Type 0
FitsBehind n One = Unit {0}
FitsBehind n (Flag k) = k ≤ limits.flag
FitsBehind n (Nand i j) = (i < n) × (j < n)
FitsBehind n (Reach i j w) = (i < n) × (j < n) × (w ≤ limits.width)
FitsBehind n (Later i d) = (i < n) × (1 ≤ d) × (d ≤ limits.distance)

-- An instruction that no test refuses after those before it
pub record FineInstruction (is : Code) (i : Instruction) : Type 0 where
  pub fits : FitsBehind (length is) i
  pub instructions : length is + 1 ≤ limits.instructions
  pub counters : reaches_in is + reach_of i ≤ limits.counters
  pub delays : distance_in is + distance_of i ≤ limits.delays

-- Code that no test refuses: each instruction is fine after those before it
abbrev pub GoodCode : Code → Type 0
GoodCode code = (n : ℕ) → n < length code → FineInstruction (take n code) (get_or code n One)

-- An instruction that has a line of delay bits, if it is a LATER
abbrev pub HasLine : Instruction → Type 0
HasLine One = Unit {0}
HasLine (Flag k) = Unit {0}
HasLine (Nand i j) = Unit {0}
HasLine (Reach i j w) = Unit {0}
HasLine (Later i d) = 1 ≤ d

-- Code in which every LATER has a line of delay bits
abbrev pub HasLines : Code → Type 0
HasLines code = Each HasLine code
