-- What is counted of code. Counts add up instruction by instruction, and the last instruction of code that no test refuses was counted with all before it, so
-- what holds there of the counts holds of all the code.
use mathlib.Core.Path.{◌≡◌, refl}
use mathlib.Core.List.{[], ◌∷◌, ◌++◌}
use mathlib.Core.Logic.{by_cases}
use Prim.Native.Nat.{ℕ, suc, ◌+◌, ◌≤◌, ◌<◌}
use native.Mathlib.Decide.{dec_lt}
use native.Mathlib.Omega.{arith}
use lib.ListN.{length, get_or, take, length-append, get_or-append}
use lib.Seq.{take-suc, take_all, take-append-le, take-append_seam, get_or-append_seam}
use Rattle.ground.specs.Limits.{limits}
use Rattle.ground.proofs.Each.{each_of}
use Rattle.code.specs.declared.instruction.Instruction.{Instruction}
use Rattle.code.specs.declared.instruction.Instruction.TheVariants.{One, Flag, Nand, Reach, Later}
use Rattle.code.specs.Code.{Code}
use Rattle.code.specs.Loading.{reach_of, distance_of, reaches_in, distance_in, code_counts}
use Rattle.code.specs.Good.{CodeWithin, FitsBehind, FineInstruction, GoodCode, HasLine, HasLines}

pub reaches_append : (is js : Code) → reaches_in (is ++ js) ≡ reaches_in is + reaches_in js
unfolding reaches_in
reaches_append [] js = omega arith
reaches_append (i ∷ is) js = omega (arith, reaches_append is js)

pub distance_append : (is js : Code) → distance_in (is ++ js) ≡ distance_in is + distance_in js
unfolding distance_in
distance_append [] js = omega arith
distance_append (i ∷ is) js = omega (arith, distance_append is js)

pub reaches_more : (is : Code) (i : Instruction) → reaches_in (is ++ i ∷ []) ≡ reaches_in is + reach_of i
unfolding reaches_in
reaches_more is i = omega (arith, reaches_append is (i ∷ []))

pub distance_more : (is : Code) (i : Instruction) → distance_in (is ++ i ∷ []) ≡ distance_in is + distance_of i
unfolding distance_in
distance_more is i = omega (arith, distance_append is (i ∷ []))

within_more : (is : Code) (i : Instruction) → FineInstruction is i → CodeWithin (code_counts (is ++ i ∷ []))
unfolding code_counts
within_more is i f =
    record {
      instructions = rw length-append f.instructions;
      reaches = rw reaches_more f.counters;
      distance = rw distance_more f.delays;
    }

last_within : (is : Code) (n : ℕ) → length is ≡ suc n → GoodCode is → CodeWithin (code_counts is)
last_within is n e g =
    let h : n < length is = omega arith in
    let w = within_more (take n is) (get_or is n One) (g n h) in
    rw (← take-suc is n One h, take_all (suc n) is (omega arith)) at w

good_within : (code : Code) → GoodCode code → CodeWithin (code_counts code)
unfolding code_counts reaches_in distance_in
good_within [] g = record { instructions = omega arith; reaches = omega arith; distance = omega arith }
good_within (i ∷ is) g = last_within (i ∷ is) (length is) refl g

pub good_instructions : (code : Code) → GoodCode code → length code ≤ limits.instructions
unfolding code_counts
good_instructions code g = (good_within code g).instructions

pub good_counters : (code : Code) → GoodCode code → reaches_in code ≤ limits.counters
unfolding code_counts
good_counters code g = (good_within code g).reaches

pub good_delays : (code : Code) → GoodCode code → distance_in code ≤ limits.delays
unfolding code_counts
good_delays code g = (good_within code g).distance

-- a LATER that fits has a line
line : (n : ℕ) (i : Instruction) → FitsBehind n i → HasLine i
line n One f = tt
line n (Flag k) f = tt
line n (Nand i j) f = tt
line n (Reach i j w) f = tt
line n (Later i d) f = omega arith

pub good_lines : (code : Code) → GoodCode code → HasLines code
good_lines code g = each_of HasLine code One (λ n h. line _ _ (g n h).fits)

pub good_none : GoodCode []
good_none n h = absurd (omega arith)

pub good_more : (is : Code) (i : Instruction) → GoodCode is → FineInstruction is i → GoodCode (is ++ i ∷ [])
good_more is i g f n h = by_cases (dec_lt n (length is)) before last
  where
    before : n < length is → FineInstruction (take n (is ++ i ∷ [])) (get_or (is ++ i ∷ []) n One)
    before l =
        let k : n ≤ length is = omega arith in
        rw (take-append-le n is (i ∷ []) k, get_or-append is (i ∷ []) One n l) (g n l)

    last : (n < length is → ⊥) → FineInstruction (take n (is ++ i ∷ [])) (get_or (is ++ i ∷ []) n One)
    last l =
        let e : n ≡ length is = omega (arith, length-append is (i ∷ [])) in
        rw (e, take-append_seam, get_or-append_seam) f
