-- One frame through code that is loaded, instruction by instruction. What stands in the sequencer behind n instructions is what a step has made of them;
-- each instruction finds its operands written and its registers there, as it is fine behind those before it, and leads on by `execute`.
use mathlib.Core.Path.{◌≡◌, refl, sym, ap, ◌∙◌}
use mathlib.Core.Bool.{Bool, true, false, not, ◌&&◌}
use mathlib.Core.List.{List, [], ◌∷◌, ◌++◌}
use Prim.Native.Nat.{ℕ, suc, ◌+◌, ◌-◌, ◌≤◌, ◌<◌}
use native.Mathlib.Numerals.{add-one}
use native.Mathlib.Omega.{arith}
use borrow.Author.Tests.{ne_eqb}
use lib.Dec.{eqb}
use lib.ListN.{length, get_or, take, drop, set, length-set, length-take, take-append-drop}
use lib.Seq.{take-suc, take_all, take-suc-set, drop-set-lt, get_or-take, drop-drop}
use Rattle.ground.specs.Frames.{has_flag}
use Rattle.code.specs.declared.instruction.Instruction.{Instruction}
use Rattle.code.specs.declared.instruction.Instruction.TheVariants.{One, Flag, Nand, Reach, Later}
use Rattle.code.specs.Code.{Code}
use Rattle.ground.specs.Limits.{limits}
use Rattle.code.specs.Loading.{reach_of, distance_of, reaches_in, distance_in}
use Rattle.code.specs.Good.{FitsBehind}
use Rattle.code.specs.Programs.{Sound}
use Rattle.code.proofs.Counting.{good_instructions}
use Rattle.sequencer.specs.Bits.{Counter, none, count, next, is_on}
use Rattle.sequencer.specs.Registers.{Working, start, execute, executed, counter_of, kept, shifted}
use Rattle.sequencer.specs.Stepping.{advanced_by}
use Rattle.sequencer.specs.Inner.Through.{stands_at, Served, Executes, Leaves}
use Rattle.sequencer.specs.declared.frame.Sequencer.{Sequencer}
use Rattle.sequencer.specs.declared.frame.Taken.{Taken}

-- One instruction

-- the bit is 1 unless "none", which is kept as 0
is_on_lem : (m : Counter) → not (eqb (kept m) 0) ≡ is_on m
is_on_lem none = refl
is_on_lem (count n) = rw (ne_eqb (suc n) 0 (omega arith))

module _ (frame : ℕ) (t : Taken) (s : Sequencer) where
  pub executes_one : Executes One frame t t s s true
  unfolding execute
  executes_one = record { stands = λ n h. refl; bits = refl }

  pub executes_flag : (k : ℕ) (b : Bool) → b ≡ has_flag k frame → Executes (Flag k) frame t t s s b
  unfolding execute
  executes_flag k b own = record { stands = λ n h. rw own; bits = refl }

  module _ (i j : ℕ) where
    pub executes_nand : (b : Bool) → b ≡ not (get_or s.bits i false && get_or s.bits j false) → Executes (Nand i j) frame t t s s b
    unfolding execute
    executes_nand b own =
        record { stands = λ n h. rw (own, get_or-take n s.bits i false h.0, get_or-take n s.bits j false h.1); bits = refl }

    pub executes_reach : (w m : ℕ) → m ≡ kept (next w (get_or s.bits i false) (get_or s.bits j false) (counter_of (get_or s.registers.counters t.counters 0)))
        → Executes (Reach i j w) frame t (record t { counters = t.counters + 1 }) s
        (record s { registers = record s.registers { counters = set s.registers.counters t.counters m } }) (not (eqb m 0))
    unfolding execute
    executes_reach w m own =
        let q = next w (get_or s.bits i false) (get_or s.bits j false) (counter_of (get_or s.registers.counters t.counters 0)) in
        let on : not (eqb m 0) ≡ is_on q = rw own (is_on_lem q) in
        record { stands = λ n h. rw (on, own, get_or-take n s.bits i false h.0, get_or-take n s.bits j false h.1); bits = refl }

  pub executes_later : (i d n : ℕ) → n ≡ d → (newest : Bool) → newest ≡ get_or s.bits i false
      → (delays : List Bool) → delays ≡ shifted s.registers.delays t.delays n newest
      → Executes (Later i d) frame t (record t { delays = t.delays + d }) s (record s { registers = record s.registers { delays = delays } })
      (get_or s.registers.delays t.delays false)
  unfolding execute
  executes_later i d n long newest bit delays shift =
      rw (shift, bit, long)
      (record { stands = λ k h. rw (get_or-take k s.bits i false h.0); bits = refl })

-- Instructions in turn

executed_more : (frame : ℕ) (is : Code) (i : Instruction) (s : Working) → executed frame (is ++ i ∷ []) s ≡ execute frame (executed frame is s) i
unfolding executed
executed_more frame [] i s = refl
executed_more frame (j ∷ is) i s = executed_more frame is i (execute frame s j)

-- each takes its counter and its delay bits

module _ (frame : ℕ) where
  execute_takes : (s : Working) (i : Instruction) → ((execute frame s i).used ≡ s.used + reach_of i) × ((execute frame s i).taken ≡ s.taken + distance_of i)
  unfolding execute
  execute_takes s One = omega arith
  execute_takes s (Flag k) = omega arith
  execute_takes s (Nand i j) = omega arith
  execute_takes s (Reach i j w) = omega arith
  execute_takes s (Later i d) = omega arith

  executed_takes : (is : Code) (s : Working) → ((executed frame is s).used ≡ s.used + reaches_in is) × ((executed frame is s).taken ≡ s.taken + distance_in is)
  unfolding executed reaches_in distance_in
  executed_takes [] s = omega arith
  executed_takes (i ∷ is) s = omega (arith, execute_takes s i, executed_takes is (execute frame s i))

-- what fits behind some instructions fits behind more
fits_more : (m n : ℕ) → m ≤ n → (i : Instruction) → FitsBehind m i → FitsBehind n i
fits_more m n h One f = tt
fits_more m n h (Flag k) f = f
fits_more m n h (Nand i j) f = omega arith
fits_more m n h (Reach i j w) f = omega arith
fits_more m n h (Later i d) f = omega arith

module _ (code : Code) (frame : ℕ) (s₀ : Sequencer) where
  -- Where the loop stands behind n instructions
  pub record Executing (n : ℕ) (t : Taken) (s : Sequencer) : Type 0 where
    pub stands : stands_at n t s ≡ executed frame (take n code) (start s₀.registers)
    pub rest : drop n s.bits ≡ drop n s₀.bits
    pub room : length s.bits ≡ limits.instructions

  pub through_first : length s₀.bits ≡ limits.instructions → (t : Taken) → (t.counters ≡ 0) × (t.delays ≡ 0) → Executing 0 t s₀
  unfolding executed
  through_first h t zero = record { stands = rw (zero.0, zero.1); rest = refl; room = h }

  module _ (f : Sound code) {n : ℕ} {t : Taken} {s : Sequencer} (w : Executing n t s) where
    pub serves : n < length code → Served (get_or code n One) t
    serves h =
        let fine = f.good n h in
        let (used, taken) = executed_takes frame (take n code) (start s₀.registers) in
        let own-used : t.counters ≡ reaches_in (take n code) = omega (arith, ap (λ s. s.used) w.stands) in
        let own-taken : t.delays ≡ distance_in (take n code) = omega (arith, ap (λ s. s.taken) w.stands) in
        record {
          fits = fits_more _ _ (omega (arith, fine.instructions)) _ fine.fits;
          counter = omega (arith, fine.counters);
          line = omega (arith, fine.delays);
        }

    pub through_more : n < length code → (t' : Taken) (s' : Sequencer) (b : Bool)
        → Executes (get_or code n One) frame t t' s s' b → Executing (n + 1) t' (record s' { bits = set s'.bits n b })
    through_more h t' s' b e =
        let fine = f.good n h in
        let before : length (take n code) ≡ n = rw length-take (omega arith) in
        let here : n < length s'.bits = rw e.bits (omega (arith, fine.instructions, w.room)) in
        let behind : take (n + 1) (set s'.bits n b) ≡ take n s'.bits ++ b ∷ [] = rw (add-one n) (take-suc-set s'.bits n b here) in
        let next : take (n + 1) code ≡ take n code ++ get_or code n One ∷ [] = rw (add-one n) (take-suc code n One h) in
        let own = e.stands n (rw before at fine.fits) in
        record {
          stands = rw (behind, own, w.stands, next) (sym (executed_more frame (take n code) (get_or code n One) (start s₀.registers)));
          rest = rw (drop-set-lt (n + 1) s'.bits n b (omega arith), e.bits, ← drop-drop 1 n s.bits, ← drop-drop 1 n s₀.bits) (ap (drop 1) w.rest);
          room = length-set s'.bits n b ∙ rw e.bits w.room;
        }

    -- Once all instructions are done
    pub through_all : n ≡ length code → (p : ℕ) → p + 1 ≡ n → Leaves code frame (get_or s.bits p false) s₀ s
    unfolding advanced_by
    through_all e p last =
        let own : stands_at n t s ≡ executed frame code (start s₀.registers) = rw (take_all n code (omega arith)) at w.stands in
        let before : length code - 1 ≡ p = omega arith in
        let bit : get_or (take n s.bits) p false ≡ get_or s.bits p false = get_or-take n s.bits p false (omega arith) in
        let long : length (take n s.bits) ≡ n = rw length-take (omega (arith, good_instructions code f.good, w.room)) in
        record {
          advanced = rw (← own, before, bit);
          own_bits = rw (← own, long, ← w.rest, take-append-drop);
        }
