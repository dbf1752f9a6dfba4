-- Bytes that are written if so many more fit behind them. If no more are asked for, that is what `written` says. One byte more is written behind them exactly
-- if they were, and then one less is asked for.
use mathlib.Core.Path.{◌≡◌}
use mathlib.Core.List.{List, ◌++◌}
use Prim.Native.Nat.{ℕ, ◌+◌}
use native.Mathlib.Omega.{arith}
use lib.ListN.{length, length-append}
use Rattle.std.proofs.Common.{Option, Some, None, unwrap_or}
use Rattle.ground.proofs.Written.{unfitting}
use Rattle.text.specs.Inner.Before.{WrittenBefore}
use Rattle.text.specs.Inner.Writing.{Puts}
use Rattle.text.proofs.Writing.{puts_more}

-- none are to fit behind them, and where nothing is written the place itself is told
pub before_none : (text : List ℕ) (at : ℕ) (bytes after : List ℕ) (end : Option ℕ) {place : ℕ} → WrittenBefore text at bytes 0 after end
    → place ≡ unwrap_or end at → Puts text at bytes after place
before_none text at bytes after None (large, same) told = rw (told, same) (unfitting text at bytes (omega arith))
before_none text at bytes after (Some place) (fits, p) told = rw told p

-- one byte more behind them
module _ (text : List ℕ) (at : ℕ) (xs : List ℕ) (more : ℕ) (mid ys : List ℕ) (one : length ys ≡ 1) where
  -- they were not written
  pub before_stays : WrittenBefore text at xs (more + 1) mid None → WrittenBefore text at (xs ++ ys) more mid None
  before_stays (large, same) = (omega (arith, length-append xs ys), same)

  -- they were
  pub before_more : {place : ℕ} {after : List ℕ} {end : ℕ} → WrittenBefore text at xs (more + 1) mid (Some place) → Puts mid place ys after end
      → WrittenBefore text at (xs ++ ys) more after (Some end)
  before_more (fits, p) q = (omega (arith, length-append xs ys), puts_more text at xs ys (omega (arith, length-append xs ys)) p q)
