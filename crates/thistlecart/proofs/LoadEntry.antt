-- Loading, for C. An accepted rule has few items and looks not far ahead, and a refusal's place is inside the items that a rule may have: every answer fits
-- into the word, and the accessors read it back.
use mathlib.Core.Path.{◌≡◌, refl}
use mathlib.Core.List.{List}
use Prim.Native.Nat.{ℕ, ◌+◌, ◌*◌, ◌/◌}
use native.Mathlib.Omega.{arith}
use Rattle.ground.specs.Buffers.{AllBytes}
use Rattle.rules.specs.Loading.{Reading, accepted, refused, read_rule, loaded_of}
use Rattle.ground.specs.declared.refusal.Refusal.{Refusal}
use Rattle.rules.specs.declared.load.Loaded.{Loaded}
use Rattle.std.proofs.Common.{Result, Ok, Err}
use Rattle.rules.proofs.Accepted.{accepted_rule}
use Rattle.rules.proofs.Places.{rule_place}
use Rattle.thistlecart.specs.Accessors.{refusal_told}
use Rattle.thistlecart.specs.Inner.Load.{LoadedFits}
use Rattle.thistlecart.specs.Load.{load_word, TellsLoaded, LoadDemand}
use Rattle.thistlecart.specs.Words.{bit8, bit16, bit24}
use Rattle.thistlecart.proofs.Accessors.{refusal_told_lem, calm}

-- What loading answers fits
pub loaded_fits : (rule : List ℕ) → AllBytes rule → LoadedFits (loaded_of (read_rule rule))
loaded_fits rule small = go (read_rule rule) refl
  where
    go : (read : Reading) → read_rule rule ≡ read → LoadedFits (loaded_of read)
    go (accepted is f) e = let a = accepted_rule rule is f small e in (omega (arith, a.items), omega (arith, a.near))
    go (refused r) e = omega (arith, rule_place rule r small e)

-- Its word tells it
pub loaded_told : (a : Result Loaded Refusal) → LoadedFits a → TellsLoaded a (load_word a)
loaded_told (Ok loaded) (fits, far) =
    let word = loaded.items * bit8 + loaded.horizon * bit24 in
    let low : refusal_told word ≡ 0 = omega arith in
    let above : word / bit8 ≡ loaded.items + loaded.horizon * bit16 = omega arith in
    (low, rw (calm _ low, above) (omega arith), rw (calm _ low) (omega arith))
loaded_told (Err r) fits = refusal_told_lem r fits

-- Its part of the first demand
pub load_demand : LoadDemand
load_demand rule small word says = rw says (loaded_told (loaded_of (read_rule rule)) (loaded_fits rule small))
