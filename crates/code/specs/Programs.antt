-- Code that is handed on once it is loaded. The contracts of `decode`, of `advance` and of inner functions cite it;
-- `step` and `run` say nothing of it.
use Rattle.std.specs.Prelude.{◌≡◌, List, ℕ, ◌≤◌, length, take}
use Rattle.ground.specs.Limits.{limits}
use Rattle.reading.specs.InTurn.{items}
use Rattle.code.specs.Code.{Code}
use Rattle.code.specs.Good.{GoodCode}
use Rattle.code.specs.Loading.{read_code}
use Rattle.code.specs.declared.load.Program.{Program}

-- Instructions, one at least, that no test refuses
pub record Sound (code : Code) : Type 0 where
  pub some : 1 ≤ length code
  pub good : GoodCode code

-- The code of a program: its instructions, without those behind
abbrev pub code_held : Program → Code
code_held p = take p.count p.instructions

-- What a program holds that is loaded: the code that is read of the bytes, which is sound
pub record HasCode (bytes : List ℕ) (p : Program) : Type 0 where
  pub is : read_code bytes ≡ items (code_held p)
  pub many : p.count ≤ limits.instructions
  pub sound : Sound (code_held p)
