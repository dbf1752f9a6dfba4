-- What an engine needs of a rule: what loading tells of it, and the code of an accepted rule as loading code keeps it.
-- Document 01: a library that "emits sequencer code; loads and runs sequencer code".
use Rattle.std.specs.Prelude.{length, Result, Ok, Err}
use Rattle.ground.specs.declared.refusal.Refusal.{Refusal}
use Rattle.rules.specs.Formula.{horizon}
use Rattle.rules.specs.Loading.{Reading, accepted, refused}
use Rattle.code.specs.Loading.{program_with}
use Rattle.emitter.specs.Translation.{code_for}
use Rattle.emitter.specs.declared.prepare.Prepared.{Prepared}

-- A rule's answer and its code, by what reading it gives; a refused one has only its refusal
unfoldable pub prepared_of : Reading → Result Prepared Refusal
prepared_of (accepted is f) =
    Ok (record {
      loaded = record { items = length is; horizon = horizon f };
      program = program_with (code_for f);
    })
prepared_of (refused r) = Err r
