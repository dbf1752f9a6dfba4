-- From fresh registers, after any clip, every register and every bit is what the definitions say of that clip. Instruction by instruction a step finds its
-- registers where the clip left them, behind those of the instructions before it, and leaves there what one frame more makes of them; how many registers code
-- takes does not depend on the clip, so the rest stays as it was.
use mathlib.Core.Path.{◌≡◌, refl, sym, ap, ◌∙◌}
use mathlib.Core.Bool.{Bool, false}
use mathlib.Core.List.{List, [], ◌∷◌, ◌++◌, map, append_assoc, map-append}
use Prim.Native.Nat.{ℕ, zero, suc, ◌+◌, ◌-◌, ◌≤◌}
use native.Mathlib.Nat.{add-zero, zero-add, add_assoc}
use native.Mathlib.Omega.{arith}
use lib.Dec.{leb-zero, leb-suc-zero, leb-suc-suc}
use lib.ListN.{length, get_or, drop, replicate, length-append, replicate-append-replicate, get_or-map}
use lib.Seq.{take-append_seam, take-append-add, drop-append_seam, drop-append-add, get_or-append_seam, set-append_seam}
use Rattle.ground.specs.Buffers.{over}
use Rattle.ground.specs.Frames.{Clip}
use Rattle.ground.specs.Limits.{limits}
use Rattle.sequencer.specs.Bits.{Wire, Counter, none, count, counter, later, wire, wire_of, wires_from, output}
use Rattle.code.specs.declared.instruction.Instruction.{Instruction}
use Rattle.code.specs.declared.instruction.Instruction.TheVariants.{One, Flag, Nand, Reach, Later}
use Rattle.code.specs.Code.{Code}
use Rattle.code.specs.Loading.{reach_of, distance_of, reaches_in, distance_in}
use Rattle.sequencer.specs.Registers.{Working, counter_of, kept, fresh_registers, start, shifted, execute, executed, registers_of, output_of}
use Rattle.code.specs.Good.{GoodCode, HasLine, HasLines}
use Rattle.sequencer.specs.After.{window, own_counter, own_delays, counters_of, delays_of, registers_after, steps_over}
use Rattle.code.proofs.Counting.{good_counters, good_delays, good_lines}

-- A line of bits

module _ (i : Wire) where
  window_length : (d : ℕ) (c : Clip) → length (window d i c) ≡ d
  unfolding window
  window_length zero c = refl
  window_length (suc d) c = ap suc (window_length d c)

  window_none : (d : ℕ) → window d i [] ≡ replicate d false
  unfolding window later
  window_none zero = refl
  window_none (suc d) = rw (leb-suc-zero, window_none d)

  -- with one frame more, what was d frames ago is d + 1 frames ago
  later_more : (d x : ℕ) (c : Clip) → later (suc d) i (x ∷ c) ≡ later d i c
  unfolding later
  later_more d x c = rw leb-suc-suc

  -- one frame more: the oldest bit falls out, and the newest comes in last
  window_more : (d x : ℕ) (c : Clip) → window (suc d) i (x ∷ c) ≡ window d i c ++ i (x ∷ c) ∷ []
  unfolding window later
  window_more zero x c = rw (leb-suc-suc, leb-zero)
  window_more (suc d) x c = cc (later_more d x c, window_more d x c)

-- a line that moves on, between what stands before it and what stands behind it
shifted_line : (before line behind : List Bool) (oldest newest : Bool)
    → shifted (before ++ oldest ∷ (line ++ behind)) (length before) (suc (length line)) newest ≡ before ++ ((line ++ newest ∷ []) ++ behind)
unfolding shifted
shifted_line before line behind oldest newest =
    simp (take-append_seam, take-append-add, drop-append-add, drop-append_seam, append_assoc)

module _ (i : Wire) (d x : ℕ) (c : Clip) (before behind : List Bool) where
  window_oldest : get_or (before ++ (window (suc d) i c ++ behind)) (length before) false ≡ later (suc d) i (x ∷ c)
  unfolding window
  window_oldest = get_or-append_seam before (later d i c) (window d i c ++ behind) false ∙ sym (later_more i d x c)

  window_shifted : shifted (before ++ (window (suc d) i c ++ behind)) (length before) (suc d) (i (x ∷ c)) ≡ before ++ (window (suc d) i (x ∷ c) ++ behind)
  unfolding window
  window_shifted =
      let s = shifted_line before (window d i c) behind (later d i c) (i (x ∷ c)) in
      rw (window_length i d c, ← window_more i d x c) at s

-- a counter is kept as a number, and read back
kept_back : (n : Counter) → counter_of (kept n) ≡ n
kept_back none = refl
kept_back (count n) = refl

-- How many registers an instruction takes, whatever the clip

own_counter_length : (ws : List Wire) (i : Instruction) (c : Clip) → length (own_counter ws i c) ≡ reach_of i
own_counter_length ws One c = refl
own_counter_length ws (Flag k) c = refl
own_counter_length ws (Nand i j) c = refl
own_counter_length ws (Reach i j w) c = refl
own_counter_length ws (Later i d) c = refl

own_delays_length : (ws : List Wire) (i : Instruction) (c : Clip) → length (own_delays ws i c) ≡ distance_of i
own_delays_length ws One c = refl
own_delays_length ws (Flag k) c = refl
own_delays_length ws (Nand i j) c = refl
own_delays_length ws (Reach i j w) c = refl
own_delays_length ws (Later i d) c = window_length (wire ws i) d c

counters_length : (ws : List Wire) (is : Code) (c : Clip) → length (counters_of ws is c) ≡ reaches_in is
unfolding counters_of reaches_in
counters_length ws [] c = refl
counters_length ws (i ∷ is) c = rw (length-append, own_counter_length, counters_length (ws ++ wire_of ws i ∷ []) is c)

delays_length : (ws : List Wire) (is : Code) (c : Clip) → length (delays_of ws is c) ≡ distance_in is
unfolding delays_of distance_in
delays_length ws [] c = refl
delays_length ws (i ∷ is) c = rw (length-append, own_delays_length, delays_length (ws ++ wire_of ws i ∷ []) is c)

module _ (x : ℕ) (c : Clip) where
  -- a bit that is read is the wire's
  bit_is : (ws : List Wire) (i : ℕ) → get_or (map (λ w. w (x ∷ c)) ws) i false ≡ wire ws i (x ∷ c)
  bit_is ws i = get_or-map (λ w. w (x ∷ c)) ws i (λ c. false)

  -- where a step stands in the frame, by the bits so far
  abbrev amid : List Wire → List ℕ → ℕ → List Bool → ℕ → Working
  amid ws counters used delays taken =
      record { bits = map (λ w. w (x ∷ c)) ws; counters = counters; used = used; delays = delays; taken = taken }

  -- One instruction, behind those before it
  one : (ws : List Wire) (i : Instruction) → HasLine i → (A R : List ℕ) (D S : List Bool)
      → execute x (amid ws (A ++ (own_counter ws i c ++ R)) (length A) (D ++ (own_delays ws i c ++ S)) (length D)) i
      ≡ amid (ws ++ wire_of ws i ∷ []) (A ++ (own_counter ws i (x ∷ c) ++ R)) (length A + reach_of i)
      (D ++ (own_delays ws i (x ∷ c) ++ S)) (length D + distance_of i)
  unfolding execute wire_of counter
  one ws One h A R D S = simp (map-append, add-zero)
  one ws (Flag k) h A R D S = simp (map-append, add-zero)
  one ws (Nand i j) h A R D S = simp (bit_is, map-append, add-zero)
  one ws (Reach i j w) h A R D S = simp (bit_is, get_or-append_seam, kept_back, set-append_seam, map-append, add-zero)
  one ws (Later i zero) h A R D S = absurd (omega arith)
  one ws (Later i (suc d)) h A R D S =
      simp (bit_is, window_oldest (wire ws i) d x c D S, window_shifted (wire ws i) d x c D S, map-append, add-zero)

  -- Instructions in turn, behind those before them
  run : (is : Code) → HasLines is → (ws : List Wire) (A R : List ℕ) (D S : List Bool)
      → executed x is (amid ws (A ++ (counters_of ws is c ++ R)) (length A) (D ++ (delays_of ws is c ++ S)) (length D))
      ≡ amid (wires_from ws is) (A ++ (counters_of ws is (x ∷ c) ++ R)) (length A + reaches_in is)
      (D ++ (delays_of ws is (x ∷ c) ++ S)) (length D + distance_in is)
  unfolding executed wires_from counters_of delays_of reaches_in distance_in
  run [] h ws A R D S = simp add-zero
  run (i ∷ is) h ws A R D S =
      let next = ws ++ wire_of ws i ∷ [] in
      let own = own_counter ws i (x ∷ c) in
      let line = own_delays ws i (x ∷ c) in
      let first = one ws i h.0 A (counters_of next is c ++ R) D (delays_of next is c ++ S) in
      let rest = run is h.1 next (A ++ own) R (D ++ line) S in
      simp (append_assoc, first)
      (simp (append_assoc, length-append, own_counter_length, own_delays_length, add_assoc) at rest)

pub after_step : (code : Code) → HasLines code → (x : ℕ) (c : Clip) →
    let after = registers_after code (x ∷ c) in
    executed x code (start (registers_after code c))
    ≡ amid x c (wires_from [] code) after.counters (reaches_in code) after.delays (distance_in code)
unfolding registers_after
after_step code h x c =
    let fresh = fresh_registers in
    let s = run x c code h [] [] (drop (reaches_in code) fresh.counters) [] (drop (distance_in code) fresh.delays) in
    simp (counters_length, delays_length) (simp zero-add at s)

pub after_registers : (code : Code) → HasLines code → (x : ℕ) (c : Clip)
    → registers_of (executed x code (start (registers_after code c))) ≡ registers_after code (x ∷ c)
after_registers code h x c = ap registers_of (after_step code h x c)

pub after_output : (code : Code) → HasLines code → (x : ℕ) (c : Clip)
    → output_of code (executed x code (start (registers_after code c))) ≡ output code (x ∷ c)
unfolding output
after_output code h x c = ap (output_of code) (after_step code h x c) ∙ bit_is x c (wires_from [] code) (length code - 1)

-- No frame yet

own_counter_none : (ws : List Wire) (i : Instruction) → own_counter ws i [] ≡ replicate (reach_of i) 0
unfolding counter
own_counter_none ws One = refl
own_counter_none ws (Flag k) = refl
own_counter_none ws (Nand i j) = refl
own_counter_none ws (Reach i j w) = refl
own_counter_none ws (Later i d) = refl

own_delays_none : (ws : List Wire) (i : Instruction) → own_delays ws i [] ≡ replicate (distance_of i) false
own_delays_none ws One = refl
own_delays_none ws (Flag k) = refl
own_delays_none ws (Nand i j) = refl
own_delays_none ws (Reach i j w) = refl
own_delays_none ws (Later i d) = window_none (wire ws i) d

counters_none : (ws : List Wire) (is : Code) → counters_of ws is [] ≡ replicate (reaches_in is) 0
unfolding counters_of reaches_in
counters_none ws [] = refl
counters_none ws (i ∷ is) =
    rw (own_counter_none, counters_none (ws ++ wire_of ws i ∷ []) is, replicate-append-replicate)

delays_none : (ws : List Wire) (is : Code) → delays_of ws is [] ≡ replicate (distance_in is) false
unfolding delays_of distance_in
delays_none ws [] = refl
delays_none ws (i ∷ is) =
    rw (own_delays_none, delays_none (ws ++ wire_of ws i ∷ []) is, replicate-append-replicate)

-- registers that hold what fresh ones hold
over_fresh : {A : Type 0} (a : A) (own : List A) (n m : ℕ) → own ≡ replicate n a → n ≤ m → over own (replicate m a) ≡ replicate m a
over_fresh a own n m e h = rw e (go n m h)
  where
    go : (n m : ℕ) → n ≤ m → over (replicate n a) (replicate m a) ≡ replicate m a
    go zero m h = refl
    go (suc n) zero h = absurd (omega arith)
    go (suc n) (suc m) h = ap (λ r. a ∷ r) (go n m (omega arith))

pub after_none : (code : Code) → reaches_in code ≤ limits.counters → distance_in code ≤ limits.delays → registers_after code [] ≡ fresh_registers
unfolding registers_after
after_none code h k =
    let p = over_fresh {A = ℕ} 0 (counters_of [] code []) (reaches_in code) limits.counters (counters_none [] code) h in
    let q = over_fresh false (delays_of [] code []) (distance_in code) limits.delays (delays_none [] code) k in
    rw (p, q)

pub after_clip : (code : Code) → GoodCode code → (c : Clip) → steps_over code c ≡ registers_after code c
unfolding steps_over
after_clip code g [] = sym (after_none code (good_counters code g) (good_delays code g))
after_clip code g (x ∷ c) = rw (after_clip code g c) (after_registers code (good_lines code g) x c)
