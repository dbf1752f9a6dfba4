-- The last bit of a formula's code is the formula's meaning: code only grows, so an operand's bit is still there when its item's instructions come, and those
-- make of the operands' bits what the item makes of their meanings. For a timed item that is so as REACH's counter says whether one of the window's places is
-- reached.
use mathlib.Core.Path.{◌≡◌, refl, sym, ap, ◌∙◌}
use mathlib.Core.Bool.{Bool, true, false, not, ◌&&◌, ◌||◌, and_self, not-not}
use mathlib.Core.List.{List, [], ◌∷◌, ◌++◌}
use mathlib.Core.Logic.Iff
use mathlib.Core.Logic.{by_cases, ◌↔◌}
use Prim.Native.Nat.{ℕ, zero, suc, ◌+◌, ◌-◌, ◌≤◌, ◌<◌}
use native.Mathlib.Decide.{dec_lt}
use native.Mathlib.Nat.{zero-add}
use native.Mathlib.Omega.{arith}
use lib.ListN.{length, get_or, drop, length-append, drop_of_length-le, get_or-append}
use lib.Seq.{get_or-append_seam, get_or_at}
use Rattle.ground.specs.Each.{Each}
use Rattle.ground.specs.Frames.{Clip, has_flag}
use Rattle.ground.proofs.Each.{each_parted}
use Rattle.ground.proofs.Choices.{bool_false}
use Rattle.rules.specs.Formula.{Formula}
use Rattle.rules.specs.Accepted.{InRange}
use Rattle.rules.specs.Items.{postfix}
use Rattle.rules.specs.Meaning.{within, reaches, holds}
use Rattle.rules.specs.declared.item.Item.{Item}
use Rattle.rules.proofs.Agreement.{Found, found}
use Rattle.sequencer.specs.Bits.{Wire, Counter, none, count, is_on, counter, later, wire, wire_of, wires_from, output, Says}
use Rattle.code.specs.declared.instruction.Instruction.TheVariants.{One, Flag, Nand, Reach, Later}
use Rattle.code.specs.Code.{Code}
use Rattle.sequencer.proofs.Counters.{counter_says, later_ago, later_none}
use Rattle.sequencer.proofs.Wires.{wires_append, wires_length, wires_old}
use Rattle.emitter.proofs.Sizes.{Earlier, grown}
use Rattle.emitter.specs.Translation.{N, then_n, later_by, timed, item_code, last, behind, after_one, after_two, translate, code_for}

-- REACH and LATER, for any w, bits and clip

-- what the counter says is whether one of the first w + 1 places is reached
module _ (w : ℕ) (i j : Wire) (c : Clip) where
  places : (within (suc w) i j c ≡ true) ↔ Found (suc w) (λ d. i d ≡ true) (λ d. j d ≡ true) c
  places = found (λ d. Iff.rfl) (λ d. Iff.rfl) (suc w) c

  on_within : (n : Counter) → Says w i j c n → is_on n ≡ within (suc w) i j c
  on_within none s =
      sym (bool_false _ (λ h. let f = places.0 h in s f.place (omega arith) (record { inside = f.inside; there = f.right; before = f.left })))
  on_within (count p) s =
      sym (places.1 (record { place = p; near = omega arith; inside = s.1.inside; right = s.1.there; left = s.1.before }))

reach_reaches : (w : ℕ) (i j : Wire) (a b : ℕ) → suc w ≡ suc b - a → (c : Clip) → is_on (counter w i j (drop a c)) ≡ reaches a b i j c
unfolding reaches
reach_reaches w i j a b e c =
    let d = drop a c in
    on_within w i j d (counter w i j d) (counter_says w i j d) ∙ rw e

-- LATER's bit is 0 where there were fewer frames, and so is a bit that is 0 of the empty clip
later_drop : (i : Wire) → i [] ≡ false → (d : ℕ) (c : Clip) → later d i c ≡ i (drop d c)
later_drop i off d c =
    by_cases (dec_lt d (length c))
    (later_ago d i c)
    (λ h. let k : length c ≤ d = omega arith in rw drop_of_length-le (later_none d i c k ∙ sym off))

-- The last of some bits

abbrev final : List Wire → Wire
final ws = wire ws (length ws - 1)

final_new : (ws : List Wire) (w : Wire) → final (ws ++ w ∷ []) ≡ w
final_new ws w =
    let l = length-append ws (w ∷ []) in
    get_or_at ws w [] (λ c. false) (length (ws ++ w ∷ []) - 1) (omega arith)

-- The forms that items' code is made of

n_not : (ws : List Wire) (i : ℕ) (w : Wire) → wire ws i ≡ w → wire_of ws (N i) ≡ (λ c. not (w c))
unfolding wire_of
n_not ws i w e = (λ k c. not (and_self (wire ws i c) k)) ∙ (λ k c. not (e k c))

nand_or : (x y : Bool) → not (not x && not y) ≡ (x || y)
nand_or true y = refl
nand_or false y = not-not y

module _ (ws : List Wire) (n : ℕ) (e : length ws ≡ n) where
  final_not : (code : Code) (w : Wire) → final (wires_from ws code) ≡ w → final (wires_from ws (then_n n code)) ≡ (λ c. not (w c))
  unfolding wires_from
  final_not code w f =
      let vs = wires_from ws code in
      ap final (wires_append ws code (N (n + length code - 1) ∷ []))
      ∙ final_new vs (wire_of vs (N (n + length code - 1)))
      ∙ simp (← e, ← wires_length) (n_not vs (length vs - 1) w f)

  final_timed : (i j a b : ℕ) → a ≤ b → final (wires_from ws (timed n i j a b)) ≡ reaches a b (wire ws i) (wire ws j)
  unfolding wires_from wire_of timed later_by reaches counter
  final_timed i j zero b h =
      let w = b - 0 in
      final_new ws (wire_of ws (Reach i j w)) ∙ (λ k c. reach_reaches w (wire ws i) (wire ws j) 0 b (omega arith) c k)
  final_timed i j (suc a) b h =
      let w = b - suc a in
      let r = wire_of ws (Reach i j w) in
      let more = ws ++ r ∷ [] in
      final_new more (wire_of more (Later n (suc a)))
      ∙ ap (later (suc a)) (get_or_at ws r [] (λ c. false) n e)
      ∙ (λ k c. (later_drop r refl (suc a) c ∙ reach_reaches w (wire ws i) (wire ws j) (suc a) b (omega arith) c) k)

-- with one bit more, p
module _ (ws : List Wire) (p : Wire) where
  abbrev one_more : List Wire
  one_more = ws ++ p ∷ []

  one_length : length one_more ≡ length ws + 1
  one_length = length-append ws (p ∷ [])

  one_new : wire one_more (length ws) ≡ p
  one_new = get_or-append_seam ws p [] (λ c. false)

  -- and with the N of an earlier bit behind it
  module _ (i : ℕ) (h : i < length ws) where
    abbrev two_more : List Wire
    two_more = one_more ++ wire_of one_more (N i) ∷ []

    one_old : wire one_more i ≡ wire ws i
    one_old = get_or-append ws (p ∷ []) (λ c. false) i h

    two_length : length two_more ≡ length ws + 2
    two_length =
        let l = one_length in
        let m = length-append one_more (wire_of one_more (N i) ∷ []) in
        omega arith

    two_first : wire two_more (length ws) ≡ p
    two_first = get_or-append one_more _ (λ c. false) (length ws) (rw one_length (omega arith)) ∙ one_new

    two_second : wire two_more (length ws + 1) ≡ (λ c. not (wire ws i c))
    two_second = get_or_at one_more _ [] (λ c. false) (length ws + 1) one_length ∙ n_not one_more i _ one_old

    final_not_timed : (a b : ℕ) → a ≤ b
        → final (wires_from two_more (then_n (length ws + 2) (timed (length ws + 2) (length ws) (length ws + 1) a b)))
        ≡ (λ c. not (reaches a b p (λ d. not (wire ws i d)) c))
    final_not_timed a b g =
        let t = final_timed two_more (length ws + 2) two_length (length ws) (length ws + 1) a b g in
        final_not two_more (length ws + 2) two_length _ _ (t ∙ (λ k. reaches a b (two_first k) (two_second k)))

-- The code of an item

-- what an item makes of its operands' meanings; a lone operand is the right one
abbrev means : Item → Wire → Wire → Wire
means Item.True l r = λ c. true
means Item.False l r = λ c. false
means (Item.Flag k) l r = λ c. has_flag k (get_or c 0 0)
means Item.Not l r = λ c. not (r c)
means Item.And l r = λ c. l c && r c
means Item.Or l r = λ c. l c || r c
means (Item.Until a b) l r = reaches a b l r
means (Item.Release a b) l r = λ c. not (reaches a b (λ d. not (l d)) (λ d. not (r d)) c)
means (Item.Eventually a b) l r = reaches a b (λ d. true) r
means (Item.Globally a b) l r = λ c. not (reaches a b (λ d. true) (λ d. not (r d)) c)

module _ (ws : List Wire) (left right : ℕ) where
  final_item : (item : Item) → InRange item → Earlier item left right (length ws)
      → final (wires_from ws (item_code (length ws) item left right)) ≡ means item (wire ws left) (wire ws right)
  unfolding wires_from wire_of item_code
  final_item Item.True g h = final_new ws (wire_of ws One)
  final_item Item.False g h = final_not ws (length ws) refl (One ∷ []) _ (final_new ws (wire_of ws One))
  final_item (Item.Flag k) g h = final_new ws (wire_of ws (Flag k))
  final_item Item.Not g h = final_new ws (wire_of ws (N right)) ∙ n_not ws right _ refl
  final_item Item.And g h =
      final_not ws (length ws) refl (Nand left right ∷ []) _ (final_new ws (wire_of ws (Nand left right)))
      ∙ (λ k c. not-not (wire ws left c && wire ws right c) k)
  final_item Item.Or g h =
      let p = wire_of ws (N left) in
      let r = (h (omega arith)).1 in
      final_new (two_more ws p right r) _
      ∙ (λ k c. not ((two_first ws p right r ∙ n_not ws left _ refl) k c && two_second ws p right r k c))
      ∙ (λ k c. nand_or (wire ws left c) (wire ws right c) k)
  final_item (Item.Until a b) g h = final_timed ws (length ws) refl left right a b g.window
  final_item (Item.Release a b) g h =
      final_not_timed ws (wire_of ws (N left)) right (h (omega arith)).1 a b g.window
      ∙ ap (λ l c. not (reaches a b l (λ d. not (wire ws right d)) c)) (n_not ws left _ refl)
  final_item (Item.Eventually a b) g h =
      let p = wire_of ws One in
      final_timed (one_more ws p) (length ws + 1) (one_length ws p) (length ws) right a b g.window
      ∙ (λ k. reaches a b (one_new ws p k) (one_old ws p right (h (omega arith)).1 k))
  final_item (Item.Globally a b) g h = final_not_timed ws (wire_of ws One) right (h (omega arith)).1 a b g.window

-- Code so far, with more behind it

abbrev wire_bit : Code → ℕ → Wire
wire_bit c i = wire (wires_from [] c) i

bits_length : (c : Code) → length (wires_from [] c) ≡ length c
bits_length c = wires_length [] c ∙ zero-add (length c)

module _ (c : Code) (item : Item) (left right : ℕ) where
  last_item : InRange item → Earlier item left right (length c)
      → wire_bit (behind c item left right) (last (behind c item left right)) ≡ means item (wire_bit c left) (wire_bit c right)
  last_item g h =
      rw (bits_length c, ← wires_append, bits_length) at
      (final_item (wires_from [] c) left right item g (rw bits_length h))

-- a formula's code keeps the bits of the code before it
kept : (c : Code) (f : Formula) (i : ℕ) → i < length c → wire_bit (translate c f) i ≡ wire_bit c i
kept c f i h =
    let g = grown c f in
    rw (g.whole, wires_append) (wires_old (wires_from [] c) g.added i (rw bits_length h))

-- The code of a formula

-- what `last_wire` says of a formula
abbrev LastHolds : Formula → Type 0
LastHolds f = Each InRange (postfix f) → (c : Code) → wire_bit (translate c f) (last (translate c f)) ≡ holds f

last_one : (f : Formula) (item : Item) → LastHolds f → Each InRange (postfix f ++ item ∷ []) → (c : Code)
    → let d = translate c f in wire_bit (after_one d item) (last (after_one d item)) ≡ means item (wire_bit d 0) (holds f)
last_one f item p h c =
    let d = translate c f in
    let s = each_parted InRange (postfix f) (item ∷ []) h in
    let m = grown c f in
    last_item d item 0 (last d) s.1.0 (λ _. (omega arith, omega arith)) ∙ ap (means item (wire_bit d 0)) (p s.0 c)

last_two : (f g : Formula) (item : Item) → LastHolds f → LastHolds g → Each InRange (postfix f ++ (postfix g ++ item ∷ [])) → (c : Code)
    → let d = translate c f in let e = translate d g in wire_bit (after_two d e item) (last (after_two d e item)) ≡ means item (holds f) (holds g)
last_two f g item p q h c =
    let d = translate c f in
    let e = translate d g in
    let s = each_parted InRange (postfix f) (postfix g ++ item ∷ []) h in
    let t = each_parted InRange (postfix g) (item ∷ []) s.1 in
    let m = grown c f in
    let n = grown d g in
    last_item e item (last d) (last e) t.1.0 (λ _. (omega arith, omega arith))
    ∙ (λ k. means item ((kept d g (last d) (omega arith) ∙ p s.0 c) k) (q t.0 d k))

pub last_wire : (f : Formula) → Each InRange (postfix f) → (c : Code) → wire (wires_from [] (translate c f)) (last (translate c f)) ≡ holds f
unfolding translate holds postfix
last_wire Formula.True h c = last_item c Item.True 0 0 h.0 (λ k. absurd (omega arith))
last_wire Formula.False h c = last_item c Item.False 0 0 h.0 (λ k. absurd (omega arith))
last_wire (Formula.Flag k) h c = last_item c (Item.Flag k) 0 0 h.0 (λ k. absurd (omega arith))
last_wire (Formula.Not f) h c = last_one f Item.Not (last_wire f) h c
last_wire (Formula.And f g) h c = last_two f g Item.And (last_wire f) (last_wire g) h c
last_wire (Formula.Or f g) h c = last_two f g Item.Or (last_wire f) (last_wire g) h c
last_wire (Formula.Until a b f g) h c = last_two f g (Item.Until a b) (last_wire f) (last_wire g) h c
last_wire (Formula.Release a b f g) h c = last_two f g (Item.Release a b) (last_wire f) (last_wire g) h c
last_wire (Formula.Eventually a b f) h c = last_one f (Item.Eventually a b) (last_wire f) h c
last_wire (Formula.Globally a b f) h c = last_one f (Item.Globally a b) (last_wire f) h c

pub output_holds : (f : Formula) → Each InRange (postfix f) → output (code_for f) ≡ holds f
unfolding output
output_holds f h = last_wire f h []
