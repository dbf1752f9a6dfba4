-- An instruction that is not refused has passed each test, as of the choices in turn between a refusal and the rest none took the refusal; and one that passes
-- each test is not refused. What no test refuses of an instruction alone is that it fits behind those before it.
use mathlib.Core.Path.{◌≡◌, refl}
use mathlib.Core.Bool.{false}
use mathlib.Core.List.{◌∷◌, [], ◌++◌}
use Prim.Native.Nat.{ℕ}
use native.Mathlib.Omega.{arith}
use borrow.Author.Tests.{ltb-false, le-ltb}
use lib.Dec.{ltb}
use Rattle.std.proofs.lemmas.Bool.Decides.{nat_tests}
use lib.ListN.{length, length-append}
use Rattle.std.specs.Prelude.{Result, Ok, Err}
use Rattle.ground.specs.Limits.{limits}
use Rattle.ground.specs.declared.refusal.Refusal.{Refusal}
use Rattle.ground.proofs.Choices.{else_taken, neither}
use Rattle.code.specs.declared.instruction.Instruction.{Instruction}
use Rattle.code.specs.declared.instruction.Instruction.TheVariants.{One, Flag, Nand, Reach, Later}
use Rattle.code.specs.Code.{Code}
use Rattle.code.specs.Good.{CodeWithin, FitsBehind, FineInstruction}
use Rattle.code.specs.Loading.{flag_too_large, not_earlier, bad_width, check_instruction, code_too_large, code_counts, code_counted}
use Rattle.code.specs.declared.check.CodeCounts.{CodeCounts}
use Rattle.code.proofs.Counting.{reaches_more, distance_more}

-- The tests of an instruction alone

fits : (n : ℕ) (i : Instruction) → flag_too_large i ≡ false → not_earlier n i ≡ false → bad_width i ≡ false → FitsBehind n i
fits n One e f g = tt
fits n (Flag k) e f g = grind (arith, nat_tests)
fits n (Nand i j) e f g = grind (arith, nat_tests)
fits n (Reach i j w) e f g = grind (arith, nat_tests)
fits n (Later i d) e f g = grind (arith, nat_tests)

passes : (n : ℕ) (i : Instruction) → FitsBehind n i → (flag_too_large i ≡ false) × (not_earlier n i ≡ false) × (bad_width i ≡ false)
passes n One f = (refl, refl, refl)
passes n (Flag k) f = grind (arith, nat_tests)
passes n (Nand i j) f = grind (arith, nat_tests)
passes n (Reach i j w) f = grind (arith, nat_tests)
passes n (Later i d) f = grind (arith, nat_tests)

-- What is passed

apart : {r : Refusal} {d : CodeCounts} → ◌≡◌ {A = Result CodeCounts Refusal} (Err r) (Ok d) → ⊥
apart e = cc

-- the counts with one instruction more are those of one instruction more
counts_more : (is : Code) (i : Instruction) → code_counted (code_counts is) i ≡ code_counts (is ++ i ∷ [])
unfolding code_counted code_counts
counts_more is i = simp (length-append, reaches_more, distance_more)

-- an instruction that is checked and not refused is fine, and with it the counts are within the limits
pub record Passed (is : Code) (i : Instruction) (d : CodeCounts) : Type 0 where
  pub fine : FineInstruction is i
  pub within : CodeWithin d
  pub counted : d ≡ code_counts (is ++ i ∷ [])

pub passed : (is : Code) (at : ℕ) (i : Instruction) (d : CodeCounts) → check_instruction (code_counts is) at i ≡ Ok d → Passed is i d
unfolding check_instruction code_too_large code_counts code_counted
passed is at i d e =
    let next = code_counted (code_counts is) i in
    let (flag, past5) = else_taken (flag_too_large i) apart e in
    let (earlier, past10) = else_taken (not_earlier (length is) i) apart past5 in
    let (width, past11) = else_taken (bad_width i) apart past10 in
    let (large, next-is) = else_taken (code_too_large next) apart past11 in
    let own : d ≡ next = cc in
    let (many, others) = neither (ltb limits.instructions next.instructions) _ large in
    let (reaches, distance) = neither (ltb limits.counters next.reaches) (ltb limits.delays next.distance) others in
    record {
      fine = record {
        fits = fits (length is) i flag earlier width;
        instructions = ltb-false _ _ many;
        counters = ltb-false _ _ reaches;
        delays = ltb-false _ _ distance;
      };
      within = rw own (record { instructions = ltb-false _ _ many; reaches = ltb-false _ _ reaches; distance = ltb-false _ _ distance });
      counted = rw own (counts_more is i);
    }

-- and one that is fine is not refused
pub not_refused : (is : Code) (at : ℕ) (i : Instruction) → FineInstruction is i
    → check_instruction (code_counts is) at i ≡ Ok (code_counted (code_counts is) i)
unfolding check_instruction code_too_large code_counts code_counted
not_refused is at i f =
    let next = code_counted (code_counts is) i in
    let (flag, earlier, width) = passes (length is) i f.fits in
    let large : code_too_large next ≡ false = rw (le-ltb _ _ f.instructions, le-ltb _ _ f.counters, le-ltb _ _ f.delays) in
    rw (flag, earlier, width, large)
