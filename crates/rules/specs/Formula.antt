-- Rules as formulas, and how far one looks. Document 002, section 2, gives the syntax, and its operator equivalences
-- add eventually and globally. Document 01: "Horizon: 0 for true, false and a flag; the largest operand's for not, and,
-- or; for the four timed kinds b plus the largest operand's."
use Rattle.std.specs.Prelude.{ℕ, ◌+◌, max}

-- A rule: one constructor for each of document 01's ten items. A window [a,b] stands before the operands, and of two
-- operands the left comes first
pub data Formula : Type 0 where
  True : Formula
  False : Formula
  Flag : ℕ → Formula
  Not : Formula → Formula
  And : Formula → Formula → Formula
  Or : Formula → Formula → Formula
  Until : ℕ → ℕ → Formula → Formula → Formula
  Release : ℕ → ℕ → Formula → Formula → Formula
  Eventually : ℕ → ℕ → Formula → Formula
  Globally : ℕ → ℕ → Formula → Formula

-- The horizon: how many frames after the first can matter
unfoldable pub horizon : Formula → ℕ
horizon True = 0
horizon False = 0
horizon (Flag k) = 0
horizon (Not f) = horizon f
horizon (And f g) = max (horizon f) (horizon g)
horizon (Or f g) = max (horizon f) (horizon g)
horizon (Until a b f g) = b + max (horizon f) (horizon g)
horizon (Release a b f g) = b + max (horizon f) (horizon g)
horizon (Eventually a b f) = b + horizon f
horizon (Globally a b f) = b + horizon f
