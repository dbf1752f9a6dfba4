-- Writing code into a buffer that may be too short. Document 01: "16 output buffer shorter than the answer". Contracts
-- of inner functions cite this; `emit` says nothing of it.
use Rattle.std.specs.Prelude.{cond, List, ◌≡◌, ℕ, ◌≤◌, length, Result, Ok, Err}
use Rattle.ground.specs.Buffers.{too_short, over}
use Rattle.ground.specs.Limits.{most_code_bytes}
use Rattle.ground.specs.declared.refusal.Refusal.{Refusal}
use Rattle.rules.specs.Loading.{Items}
use Rattle.code.specs.Code.{Code}
use Rattle.emitter.specs.Translation.{bytes_of_code}
use Rattle.emitter.specs.Inner.Emission.{CanTranslate, items_code}

-- Items that can be translated, into code whose bytes have room in the longest code's array
pub record CanWriteItems (is : Items) : Type 0 where
  pub translates : CanTranslate is
  pub short : length (bytes_of_code (items_code is)) ≤ most_code_bytes

-- What a buffer holds after bytes are written over its first ones, by the answer
abbrev pub bytes_after : Result ℕ Refusal → List ℕ → List ℕ → List ℕ
bytes_after (Ok n) bytes out = over bytes out
bytes_after (Err r) bytes out = out

-- What writing code answers and leaves
abbrev pub EmitsCode : Code → List ℕ → Result ℕ Refusal → List ℕ → Type 0
EmitsCode code before answer after =
    let bytes = bytes_of_code code in
    (answer ≡ cond (too_short before bytes) (Err Refusal.ShortOutput) (Ok (length bytes)))
    × (after ≡ bytes_after answer bytes before)
