-- Translating item by item. The code so far is that of the formulas that wait, and their bits are stacked in the array; so an item reads its operands' bits
-- there, its own code makes the code of the new stack, and its last bit takes their place.
use mathlib.Core.Path.{◌≡◌, refl, ap}
use mathlib.Core.List.{List, [], ◌∷◌, ◌++◌, append_assoc, append-nil}
use Prim.Native.Nat.{ℕ, zero, suc, ◌+◌, ◌-◌, ◌≤◌, ◌<◌}
use native.Mathlib.Numerals.{add-one}
use native.Mathlib.Omega.{arith}
use borrow.Author.Tests.{le-ltb}
use lib.ListN.{length, get_or, take, drop, set, replicate, length-set, length-take, length-append, length-replicate}
use lib.Seq.{take-suc, take_all}
use Rattle.ground.specs.Buffers.{over}
use Rattle.ground.specs.Limits.{limits}
use Rattle.ground.specs.Stacked.{Stacked}
use Rattle.ground.proofs.Buffers.{over_more}
use Rattle.ground.proofs.Stacked.{stacked_drop, stacked_push}
use Rattle.rules.specs.Formula.{Formula}
use Rattle.rules.specs.Items.{row_of_item, apply}
use Rattle.rules.specs.Loading.{Items, stack_from, stack_of}
use Rattle.rules.specs.declared.item.Item.{Item}
use Rattle.rules.proofs.Stack.{applied, stack_more}
use Rattle.code.specs.Code.{Code}
use Rattle.code.specs.Loading.{program_with}
use Rattle.code.specs.declared.instruction.Instruction.{Instruction}
use Rattle.code.specs.declared.instruction.Instruction.TheVariants.{One}
use Rattle.emitter.specs.Inner.Emission.{stack_code, nothing_emitted, pushed, with_code, from_top, own_code, next_of, CanAdd, CanTranslate, items_code}
use Rattle.emitter.specs.Translation.{N, then_n, item_code, last, behind, after_two, translate}
use Rattle.emitter.specs.declared.emission.Emission.{Emission}
use Rattle.emitter.proofs.Sizes.{item_size}

-- Instructions behind instructions

with_more : (e : Emission) (c d : Code) → with_code (with_code e c) d ≡ with_code e (c ++ d)
with_more e [] d = refl
with_more e (i ∷ c) d = with_more (pushed e i) c d

-- they are counted
counted : (e : Emission) (c : Code) → (with_code e c).program.count ≡ e.program.count + length c
counted e [] = omega arith
counted e (i ∷ c) = omega (arith, counted (pushed e i) c)

-- N of the last bit
pub with_n : (e before after : Emission) (c : Code) (n : ℕ) → n ≡ e.program.count → before ≡ with_code e c
    → after ≡ pushed before (N (before.program.count - 1)) → after ≡ with_code e (then_n n c)
with_n e before after c n h b a =
    let number : before.program.count ≡ n + length c = omega (arith, ap (λ x. x.program.count) b, counted e c) in
    rw (← with_more, ← b, ← number) a

-- and the values stay
bits_stay : (e : Emission) (c : Code) → (with_code e c).bits ≡ e.bits
bits_stay e [] = refl
bits_stay e (i ∷ c) = bits_stay (pushed e i) c

pub depth_stays : (e : Emission) (c : Code) → (with_code e c).depth ≡ e.depth
depth_stays e [] = refl
depth_stays e (i ∷ c) = depth_stays (pushed e i) c

-- the code so far, with more behind it
held_pushed : (e : Emission) (c : Code) (i : Instruction) → length c < limits.instructions → e.program ≡ program_with c
    → (pushed e i).program ≡ program_with (c ++ i ∷ [])
held_pushed e c i h s =
    let ones = replicate limits.instructions One in
    let long : length c < length ones = rw length-replicate h in
    let instructions : set (over c ones) (length c) i ≡ over (c ++ i ∷ []) ones = over_more c ones (length c) i refl long in
    let count : length c + 1 ≡ length (c ++ i ∷ []) = rw length-append in
    rw s (λ k. record { instructions = instructions k; count = count k })

held_more : (e : Emission) (c d : Code) → length c + length d ≤ limits.instructions → e.program ≡ program_with c
    → (with_code e d).program ≡ program_with (c ++ d)
held_more e c [] h s = rw append-nil s
held_more e c (i ∷ d) h s =
    let one = held_pushed e c i (omega arith) s in
    let room : length (c ++ i ∷ []) + length d ≤ limits.instructions = rw length-append (omega arith) in
    rw (append_assoc c (i ∷ []) d) at (held_more (pushed e i) (c ++ i ∷ []) d room one)

-- The numbers of the bits of the formulas that wait, the last one first
pub bits_of : List Formula → List ℕ
bits_of [] = []
bits_of (f ∷ st) = last (stack_code (f ∷ st)) ∷ bits_of st

-- Where translating stands for the formulas that wait
pub record Waits (e : Emission) (st : List Formula) : Type 0 where
  pub held : e.program ≡ program_with (stack_code st)
  pub bits : Stacked e.bits (bits_of st)
  pub depth : e.depth ≡ length st
  pub room : length e.bits ≡ limits.items

-- before the first item
pub waits_none : (e : Emission) → e ≡ nothing_emitted → Waits e (stack_of [])
unfolding stack_from stack_code bits_of Stacked
waits_none e h = rw h (record { held = refl; bits = tt; depth = refl; room = refl })

-- as many instructions as the code has
many : (e : Emission) (st : List Formula) → Waits e st → e.program.count ≡ length (stack_code st)
many e st s = ap (λ p. p.count) s.held

-- as many bits as formulas
bits_length : (st : List Formula) → length (bits_of st) ≡ length st
unfolding bits_of
bits_length [] = refl
bits_length (f ∷ st) = ap suc (bits_length st)

bits_drop : (n : ℕ) (st : List Formula) → bits_of (drop n st) ≡ drop n (bits_of st)
unfolding bits_of
bits_drop zero st = refl
bits_drop (suc n) [] = refl
bits_drop (suc n) (f ∷ st) = bits_drop n st

-- the bit below so many others
bit_below : (e : Emission) (n : ℕ) (st : List Formula) (x : ℕ) → e.depth ≡ n + length st → get_or e.bits (length (bits_of st)) 0 ≡ x
    → from_top e.bits e.depth n ≡ x
bit_below e n st x d g =
    let there : n ≤ e.depth = omega arith in
    let place : e.depth - n ≡ length (bits_of st) = omega (arith, bits_length st) in
    simp (le-ltb, place) g

-- the code of an item whose operands, one or two, are on top
behind_one : (e : Emission) (f : Formula) (st : List Formula) (i : Item) → Waits e (f ∷ st)
    → behind (stack_code (f ∷ st)) i (from_top e.bits e.depth 2) (last (stack_code (f ∷ st))) ≡ stack_code (f ∷ st) ++ own_code e i
unfolding bits_of Stacked
behind_one e f st i s = cc (many e (f ∷ st) s, bit_below e 1 st _ (omega (arith, s.depth)) s.bits.0)

behind_two : (e : Emission) (g f : Formula) (st : List Formula) (i : Item) → Waits e (g ∷ f ∷ st)
    → after_two (stack_code (f ∷ st)) (stack_code (g ∷ f ∷ st)) i ≡ stack_code (g ∷ f ∷ st) ++ own_code e i
unfolding bits_of Stacked
behind_two e g f st i s =
    let left = bit_below e 2 st _ (omega (arith, s.depth)) s.bits.1.0 in
    let right = bit_below e 1 (f ∷ st) _ (omega (arith, s.depth)) s.bits.0 in
    cc (many e (g ∷ f ∷ st) s, left, right)

-- An item's own code behind the code of the stack is the code of the new stack
own_code_lem : (e : Emission) (st : List Formula) (i : Item) → Waits e st → (row_of_item i).operands ≤ length st
    → stack_code (apply i st) ≡ stack_code st ++ own_code e i
unfolding apply stack_code translate item_code
own_code_lem e st Item.True s h = refl
own_code_lem e st Item.False s h = cc (many e st s)
own_code_lem e st (Item.Flag k) s h = refl
own_code_lem e [] Item.Not s h = absurd (omega arith)
own_code_lem e (f ∷ st) Item.Not s h = behind_one e f st Item.Not s
own_code_lem e [] (Item.Eventually a b) s h = absurd (omega arith)
own_code_lem e (f ∷ st) (Item.Eventually a b) s h = behind_one e f st (Item.Eventually a b) s
own_code_lem e [] (Item.Globally a b) s h = absurd (omega arith)
own_code_lem e (f ∷ st) (Item.Globally a b) s h = behind_one e f st (Item.Globally a b) s
own_code_lem e [] Item.And s h = absurd (omega arith)
own_code_lem e (g ∷ []) Item.And s h = absurd (omega arith)
own_code_lem e (g ∷ f ∷ st) Item.And s h = behind_two e g f st Item.And s
own_code_lem e [] Item.Or s h = absurd (omega arith)
own_code_lem e (g ∷ []) Item.Or s h = absurd (omega arith)
own_code_lem e (g ∷ f ∷ st) Item.Or s h = behind_two e g f st Item.Or s
own_code_lem e [] (Item.Until a b) s h = absurd (omega arith)
own_code_lem e (g ∷ []) (Item.Until a b) s h = absurd (omega arith)
own_code_lem e (g ∷ f ∷ st) (Item.Until a b) s h = behind_two e g f st (Item.Until a b) s
own_code_lem e [] (Item.Release a b) s h = absurd (omega arith)
own_code_lem e (g ∷ []) (Item.Release a b) s h = absurd (omega arith)
own_code_lem e (g ∷ f ∷ st) (Item.Release a b) s h = behind_two e g f st (Item.Release a b) s

-- With one item more
waits_more : (e : Emission) (st : List Formula) (i : Item) → Waits e st → (row_of_item i).operands ≤ length st
    → length st - (row_of_item i).operands < limits.items → length (stack_code st) + length (own_code e i) ≤ limits.instructions
    → Waits (next_of e i) (apply i st)
unfolding bits_of
waits_more e st i s h room code_room =
    let own = own_code e i in
    let a = applied i st h in
    let n = (row_of_item i).operands in
    let held : (with_code e own).program ≡ program_with (stack_code (apply i st)) =
    rw (own_code_lem e st i s h) (held_more e (stack_code st) own code_room s.held) in
    let top : (with_code e own).program.count - 1 ≡ last (stack_code (a.value ∷ a.rest)) = ap (λ p. p.count - 1) (rw a.gives at held) in
    let rest : Stacked e.bits (bits_of a.rest) = rw (a.tail, bits_drop) (stacked_drop e.bits n (bits_of st) s.bits) in
    let bottom : e.depth - n ≡ length (bits_of a.rest) = omega (arith, s.depth, a.left, bits_length a.rest) in
    let bits = bits_stay e own in
    let depth = depth_stays e own in
    record {
      held = held;
      bits = rw (a.gives, bits, depth, ← top) (stacked_push e.bits (bits_of a.rest) _ _ bottom (omega (arith, s.depth, s.room)) rest);
      depth = rw (a.gives, depth) (omega (arith, s.depth, a.left));
      room = rw (length-set, bits) s.room;
    }

-- Items in turn
module _ (is : Items) (can : CanTranslate is) (k : ℕ) (inside : k < length is) (e : Emission) (s : Waits e (stack_of (take k is))) where
  pub can_add : CanAdd e (get_or is k Item.True)
  can_add =
      let ready = can.ready k inside in
      let few = can.few in
      record {
        window = ready.window;
        operands = omega (arith, ready.operands, s.depth);
        depth = omega (arith, ready.values, length-take k is, s.depth);
        above = omega (arith, ready.values, length-take k is, s.depth);
        room = omega (arith, ready.room, many e (stack_of (take k is)) s);
      }

  pub waits_next : (next : Emission) → next ≡ next_of e (get_or is k Item.True) → Waits next (stack_of (take (k + 1) is))
  waits_next next h =
      let ready = can.ready k inside in
      let few = can.few in
      let item = get_or is k Item.True in
      let own_size = item_size e.program.count item (from_top e.bits e.depth 2) (from_top e.bits e.depth 1) in
      rw (add-one, take-suc is k Item.True inside, stack_more, h)
      (waits_more e (stack_of (take k is)) item s ready.operands (omega (arith, ready.values, length-take k is)) (omega (arith, ready.room)))

-- and behind the last
pub waits_all : (is : Items) (k : ℕ) (e : Emission) → length is ≤ k → Waits e (stack_of (take k is)) → e.program ≡ program_with (items_code is)
waits_all is k e h s = rw (take_all k is h) at s.held
