-- What each instruction's bit means on the clip read so far. Frames are read from the last to the first, so a clip
-- grows at its head, and what the sequencer knows after a clip is a function of that list. Document 01: "04 i j w
-- REACH: if j is 1, the counter becomes 0; else if i is 1, the counter isn't "none" and is below w, it rises by one;
-- else it becomes "none". The bit is 1 unless "none"" and "05 i d LATER: bit i as it was d frames ago in reading order;
-- 0 if there were fewer".
use Rattle.std.specs.Prelude.{◌≡◌, Bool, true, false, not, cond, ◌&&◌, List, [], ◌∷◌, ◌++◌, ℕ, ◌+◌, ◌-◌, ◌≤◌, ◌<◌, ltb}
use Rattle.std.specs.Prelude.{length, get_or, drop}
use Rattle.ground.specs.Frames.{Clip, has_flag}
use Rattle.code.specs.declared.instruction.Instruction.{Instruction}
use Rattle.code.specs.declared.instruction.Instruction.TheVariants.{One, Flag, Nand, Reach, Later}
use Rattle.code.specs.Code.{Code}

-- A bit after each clip
abbrev pub Wire : Type 0
Wire = Clip → Bool

-- A counter: "none", or a number
pub data Counter : Type 0 where
  none : Counter
  count : ℕ → Counter

-- A counter that isn't "none" and is below w rises by one
abbrev pub rise : ℕ → Counter → Counter
rise w none = none
rise w (count n) = cond (ltb n w) (count (n + 1)) none

-- What REACH makes of its counter, by w and bits i and j
unfoldable pub next : ℕ → Bool → Bool → Counter → Counter
next w i j n = cond j (count 0) (cond i (rise w n) none)

-- The bit is 1 unless "none"
abbrev pub is_on : Counter → Bool
is_on none = false
is_on (count n) = true

-- REACH's counter after a clip
unfoldable pub counter : ℕ → Wire → Wire → Clip → Counter
counter w i j [] = none
counter w i j (x ∷ c) = next w (i (x ∷ c)) (j (x ∷ c)) (counter w i j c)

-- Bit i as it was d frames ago in reading order; 0 if there were fewer
unfoldable pub later : ℕ → Wire → Wire
later d i c = cond (ltb d (length c)) (i (drop d c)) false

-- The bit of an earlier instruction, by its number; that of a number that no instruction has is never 1
abbrev pub wire : List Wire → ℕ → Wire
wire ws i = get_or ws i (λ c. false)

-- The bit of an instruction, by those of the instructions before it
unfoldable pub wire_of : List Wire → Instruction → Wire
wire_of ws One c = true
wire_of ws (Flag k) c = has_flag k (get_or c 0 0)
wire_of ws (Nand i j) c = not (wire ws i c && wire ws j c)
wire_of ws (Reach i j w) c = is_on (counter w (wire ws i) (wire ws j) c)
wire_of ws (Later i d) c = later d (wire ws i) c

-- The bits of instructions, behind those of the instructions before them
unfoldable pub wires_from : List Wire → Code → List Wire
wires_from ws [] = ws
wires_from ws (i ∷ is) = wires_from (ws ++ wire_of ws i ∷ []) is

-- The last instruction's bit is the output
unfoldable pub output : Code → Wire
output code = wire (wires_from [] code) (length code - 1)

-- j holds p frames on, and i at each frame before that
pub record Reached (i j : Wire) (c : Clip) (p : ℕ) : Type 0 where
  pub inside : p < length c
  pub there : j (drop p c) ≡ true
  pub before : (q : ℕ) → q < p → i (drop q c) ≡ true

-- What REACH's counter says of a clip: the smallest place up to w that is reached, else "none" as there is no such
-- place
abbrev pub Says : ℕ → Wire → Wire → Clip → Counter → Type 0
Says w i j c none = (p : ℕ) → p ≤ w → Reached i j c p → ⊥
Says w i j c (count p) = (p ≤ w) × Reached i j c p × ((q : ℕ) → Reached i j c q → p ≤ q)
