-- What made rules mean. Document 01: "negate appends 20; both and either append 21 or 22 after the first and then the
-- second rule; next appends `33 01 01`, as document 002 equates next with globally[1,1]." A made rule is a rule again,
-- and on every clip it holds, by document 002's meaning, exactly where it is said.
use Rattle.std.specs.Prelude.{◌≡◌, List, ℕ}
use Rattle.ground.specs.Frames.{Clip}
use Rattle.rules.specs.Formula.{Formula, horizon}
use Rattle.rules.specs.Loading.{Items, accepted, read_rule}
use Rattle.rules.specs.Meaning.{Holds}

-- Bytes that are a rule, which holds exactly where it is said, with this horizon
pub record Means (new : List ℕ) (Says : Clip → Type 0) (far : ℕ) : Type 0 where
  -- its items, and the formula that they make
  pub items : Items
  pub formula : Formula
  -- the bytes are accepted as these
  pub read : read_rule new ≡ accepted items formula
  -- where the rule holds, it is said
  pub holds : (c : Clip) → Holds formula c → Says c
  -- where it is said, the rule holds
  pub held : (c : Clip) → Says c → Holds formula c
  -- how far the rule looks
  pub horizon : horizon formula ≡ far
