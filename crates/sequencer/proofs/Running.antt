-- The run over a clip, frame by frame from the last. `Runs` says where it stands: the registers are those after the frames read, and the buffer has a verdict
-- for each of them. One frame more is one step, and by the meaning of registers and bits it leads to the registers and the verdict of the longer clip.
use mathlib.Core.Path.{◌≡◌, refl, sym, ap, ◌∙◌}
use mathlib.Core.Bool.{Bool}
use mathlib.Core.List.{List, [], ◌∷◌, ◌++◌, append_assoc}
use Prim.Native.Nat.{ℕ, zero, suc, ◌+◌, ◌<◌}
use native.Mathlib.Numerals.{add-one}
use native.Mathlib.Omega.{arith}
use lib.ListN.{length, get_or, take, drop, set, length-take, take-append-drop, drop_of_length-le}
use lib.Seq.{drop-cons, take-suc, set_at}
use Rattle.ground.specs.Buffers.{over, byte_of}
use Rattle.ground.specs.Frames.{Clip}
use Rattle.sequencer.specs.Bits.{output}
use Rattle.code.specs.Code.{Code}
use Rattle.sequencer.specs.Registers.{fresh_registers}
use Rattle.sequencer.specs.Stepping.{advanced_by}
use Rattle.sequencer.specs.Running.{verdicts}
use Rattle.code.specs.Programs.{Sound}
use Rattle.sequencer.specs.Inner.Through.{Leaves, CanRun}
use Rattle.sequencer.specs.declared.frame.Sequencer.{Sequencer}
use Rattle.sequencer.specs.declared.registers.Registers.{Registers}
use Rattle.sequencer.specs.After.{registers_after}
use Rattle.sequencer.proofs.After.{after_none, after_registers, after_output}
use Rattle.code.proofs.Counting.{good_counters, good_delays, good_lines}

-- one element more at the front of those that are written from a place to the end
set_front : {A : Type 0} (xs own : List A) (p : ℕ) (v : A) → p < length xs
    → set (take (p + 1) xs ++ over own (drop (p + 1) xs)) p v ≡ take p xs ++ over (v ∷ own) (drop p xs)
set_front xs own p v h =
    let t : take (suc p) xs ≡ take p xs ++ get_or xs p v ∷ [] = take-suc xs p v h in
    let d : drop p xs ≡ get_or xs p v ∷ drop (suc p) xs = drop-cons xs p v h in
    rw (add-one p, t, d, append_assoc) (set_at (take p xs) _ _ v p (rw length-take (omega arith)))

module _ (code : Code) (clip out₀ : List ℕ) where
  -- Where the run stands: so many frames are left
  pub record Runs (r : Registers) (out : List ℕ) (left : ℕ) : Type 0 where
    pub registers : r ≡ registers_after code (drop left clip)
    pub buffer : out ≡ take left out₀ ++ over (verdicts code (drop left clip)) (drop left out₀)

  pub runs_first : Sound code → Runs fresh_registers out₀ (length clip)
  unfolding verdicts
  runs_first f =
      let none : drop (length clip) clip ≡ [] = drop_of_length-le clip {i = length clip} (omega arith) in
      record {
        registers = rw none (sym (after_none code (good_counters code f.good) (good_delays code f.good)));
        buffer = rw (none, take-append-drop);
      }

  pub runs_more : CanRun code clip out₀ → {s s' : Sequencer} {out : List ℕ} {left : ℕ} → Runs s.registers out left → (p : ℕ) → p + 1 ≡ left → p < length clip
      → (b : Bool) → Leaves code (get_or clip p 0) b s s' → (v : ℕ) → v ≡ byte_of b → Runs s'.registers (set out p v) p
  unfolding verdicts advanced_by
  runs_more f {left = left} r p next inside b g v own =
      let x = get_or clip p 0 in
      let c = drop left clip in
      let d : drop p clip ≡ x ∷ c = rw (← next, add-one p) (drop-cons clip p 0 inside) in
      let lines = good_lines code f.sound.good in
      let h = rw r.registers at g.advanced in
      let bit : b ≡ output code (x ∷ c) = ap (λ a. a.bit) h ∙ after_output code lines x c in
      record {
        registers = rw d (ap (λ a. a.registers) h ∙ after_registers code lines x c);
        buffer = rw (d, own, bit, r.buffer) (rw next at (set_front out₀ (verdicts code c) p (byte_of (output code (x ∷ c))) (omega (arith, f.room))));
      }

-- The bytes of a run: one for each frame, by the output after the clip from it

pub verdict_at : (code : Code) (clip : Clip) (i : ℕ) → i < length clip → get_or (verdicts code clip) i 0 ≡ byte_of (output code (drop i clip))
unfolding verdicts
verdict_at code [] i h = absurd (omega arith)
verdict_at code (x ∷ c) zero h = refl
verdict_at code (x ∷ c) (suc i) h = verdict_at code c i (omega arith)

pub verdicts_length : (code : Code) (clip : Clip) → length (verdicts code clip) ≡ length clip
unfolding verdicts
verdicts_length own [] = refl
verdicts_length own (x ∷ c) = ap suc (verdicts_length own c)
