-- The code of an accepted rule is accepted. An item's instructions refer to its operands' bits and to each other, so all operands are earlier instructions, and
-- its flag, width and distance are at most the item's own; the totals follow from what the rule's items count.
use mathlib.Core.Path.{◌≡◌}
use mathlib.Core.List.{List, [], ◌∷◌, ◌++◌, append_assoc, append-nil}
use Prim.Native.Nat.{ℕ, zero, suc, ◌+◌, ◌≤◌}
use native.Mathlib.Omega.{arith}
use lib.ListN.{length, length-append}
use Rattle.ground.specs.Each.{Each}
use Rattle.reading.specs.InTurn.{items}
use Rattle.ground.specs.Limits.{limits, most_emitted, most_code_bytes}
use Rattle.ground.proofs.Each.{each_parted}
use Rattle.rules.specs.Accepted.{IsRule, InRange}
use Rattle.rules.specs.Formula.{Formula}
use Rattle.rules.specs.Items.{postfix}
use Rattle.rules.specs.Loading.{Items}
use Rattle.rules.specs.declared.item.Item.{Item}
use Rattle.code.specs.Code.{Code}
use Rattle.code.specs.Good.{FitsBehind, FineInstruction, GoodCode}
use Rattle.code.specs.Loading.{reaches_in, distance_in, read_code}
use Rattle.code.proofs.Complete.{code_read}
use Rattle.code.proofs.Counting.{reaches_more, distance_more, good_none, good_more}
use Rattle.code.proofs.Instructions.{code_length}
use Rattle.emitter.specs.Translation.{later_by, timed, item_code, behind, after_one, after_two, translate, code_for, code_bytes}
use Rattle.emitter.proofs.Sizes.{Earlier, Grown, grown}

-- instructions that fit behind those before them, where so many are earlier than the first
abbrev Fit : ℕ → Code → Type 0
Fit n [] = Unit {0}
Fit n (i ∷ is) = FitsBehind n i × Fit (n + 1) is

fit_append : (n m : ℕ) (c d : Code) → n + length c ≡ m → Fit n c → Fit m d → Fit n (c ++ d)
fit_append n m [] d e p q = let same : n ≡ m = omega arith in rw same q
fit_append n m (i ∷ c) d e p q = (p.0, fit_append (n + 1) m c d (omega arith) p.1 q)

-- the instructions of an item in range, whose operands, if it has any, are earlier
item_fit : (n : ℕ) (i : Item) (left right : ℕ) → InRange i → Earlier i left right n → Fit n (item_code n i left right)
unfolding item_code timed later_by
item_fit n Item.True left right r h = omega arith
item_fit n Item.False left right r h = omega arith
item_fit n (Item.Flag k) left right r h = omega arith
item_fit n Item.Not left right r h = omega (arith, h (omega arith))
item_fit n Item.And left right r h = omega (arith, h (omega arith))
item_fit n Item.Or left right r h = omega (arith, h (omega arith))
item_fit n (Item.Until zero b) left right r h = omega (arith, h (omega arith))
item_fit n (Item.Until (suc a) b) left right r h = omega (arith, h (omega arith))
item_fit n (Item.Release zero b) left right r h = omega (arith, h (omega arith))
item_fit n (Item.Release (suc a) b) left right r h = omega (arith, h (omega arith))
item_fit n (Item.Eventually zero b) left right r h = omega (arith, h (omega arith))
item_fit n (Item.Eventually (suc a) b) left right r h = omega (arith, h (omega arith))
item_fit n (Item.Globally zero b) left right r h = omega (arith, h (omega arith))
item_fit n (Item.Globally (suc a) b) left right r h = omega (arith, h (omega arith))

behind_fit : (c : Code) (i : Item) (left right : ℕ) → InRange i → Earlier i left right (length c) → Fit 0 c → Fit 0 (behind c i left right)
behind_fit c i left right r h p = fit_append 0 (length c) c _ (omega arith) p (item_fit (length c) i left right r h)

-- behind one operand, and behind two, whose code fits
module _ (c : Code) (f : Formula) (own : Each InRange (postfix f) → Fit 0 (translate c f)) where
  after_one_lem : (i : Item) → Each InRange (postfix f ++ i ∷ []) → Fit 0 (after_one (translate c f) i)
  after_one_lem i e =
      let (r, s) = each_parted InRange (postfix f) (i ∷ []) e in
      let m = grown c f in
      behind_fit (translate c f) i 0 _ s.0 (λ h. omega arith) (own r)

  after_two_lem : (g : Formula) → (Each InRange (postfix g) → Fit 0 (translate c f) → Fit 0 (translate (translate c f) g)) → (i : Item)
      → Each InRange (postfix f ++ (postfix g ++ i ∷ []))
      → Fit 0 (after_two (translate c f) (translate (translate c f) g) i)
  after_two_lem g more i e =
      let (r, s) = each_parted InRange (postfix f) (postfix g ++ i ∷ []) e in
      let (t, u) = each_parted InRange (postfix g) (i ∷ []) s in
      let m = grown c f in
      let n = grown (translate c f) g in
      behind_fit (translate (translate c f) g) i _ _ u.0 (λ h. omega arith) (more t (own r))

-- the code of a formula whose items are in range, behind code
formula_fit : (c : Code) (f : Formula) → Fit 0 c → Each InRange (postfix f) → Fit 0 (translate c f)
unfolding translate postfix
formula_fit c Formula.True p e = behind_fit c Item.True 0 0 e.0 (λ h. omega arith) p
formula_fit c Formula.False p e = behind_fit c Item.False 0 0 e.0 (λ h. omega arith) p
formula_fit c (Formula.Flag k) p e = behind_fit c (Item.Flag k) 0 0 e.0 (λ h. omega arith) p
formula_fit c (Formula.Not f) p e = after_one_lem c f (formula_fit c f p) Item.Not e
formula_fit c (Formula.And f g) p e = after_two_lem c f (formula_fit c f p) g (λ r q. formula_fit (translate c f) g q r) Item.And e
formula_fit c (Formula.Or f g) p e = after_two_lem c f (formula_fit c f p) g (λ r q. formula_fit (translate c f) g q r) Item.Or e
formula_fit c (Formula.Until a b f g) p e = after_two_lem c f (formula_fit c f p) g (λ r q. formula_fit (translate c f) g q r) (Item.Until a b) e
formula_fit c (Formula.Release a b f g) p e = after_two_lem c f (formula_fit c f p) g (λ r q. formula_fit (translate c f) g q r) (Item.Release a b) e
formula_fit c (Formula.Eventually a b f) p e = after_one_lem c f (formula_fit c f p) (Item.Eventually a b) e
formula_fit c (Formula.Globally a b f) p e = after_one_lem c f (formula_fit c f p) (Item.Globally a b) e

-- behind some instructions others are to come, and with them the limits are kept
record CodeAhead (is js : Code) : Type 0 where
  fit : Fit (length is) js
  instructions : length is + length js ≤ limits.instructions
  reaches : reaches_in is + reaches_in js ≤ limits.counters
  distance : distance_in is + distance_in js ≤ limits.delays

-- so each is fine after those before it
all_fine : (is js : Code) → GoodCode is → CodeAhead is js → GoodCode (is ++ js)
unfolding reaches_in distance_in
all_fine is [] g a = rw append-nil g
all_fine is (i ∷ js) g a =
    let f : FineInstruction is i =
    record { fits = a.fit.0; instructions = omega arith; counters = omega arith; delays = omega arith } in
    let less : CodeAhead (is ++ i ∷ []) js =
    record {
      fit = rw length-append a.fit.1;
      instructions = simp length-append (omega arith);
      reaches = rw reaches_more (omega arith);
      distance = rw distance_more (omega arith);
    } in
    rw append_assoc at (all_fine (is ++ i ∷ []) js (good_more is i g f) less)

-- The code of an accepted rule: its size, that no test refuses it, and that it is read from its bytes
size : (bytes : List ℕ) (is : Items) (f : Formula) → IsRule bytes is f → Grown [] (code_for f) is
size bytes is f r = rw r.own_items (grown [] f)

pub code_instructions : (bytes : List ℕ) (is : Items) (f : Formula) → IsRule bytes is f → length (code_for f) ≤ most_emitted
code_instructions bytes is f r = let s = size bytes is f r in omega arith

pub code_bytes_lem : (bytes : List ℕ) (is : Items) (f : Formula) → IsRule bytes is f → length (code_bytes f) ≤ most_code_bytes
unfolding reaches_in
code_bytes_lem bytes is f r = let s = size bytes is f r in omega (arith, code_length (code_for f))

pub good_code : (bytes : List ℕ) (is : Items) (f : Formula) → IsRule bytes is f → GoodCode (code_for f)
unfolding reaches_in distance_in
good_code bytes is f r =
    let s = size bytes is f r in
    let fit = formula_fit [] f tt (rw r.own_items at r.ranges) in
    all_fine [] (code_for f) good_none (record { fit = fit; instructions = omega arith; reaches = omega arith; distance = omega arith })

pub code_some : (bytes : List ℕ) (is : Items) (f : Formula) → IsRule bytes is f → 1 ≤ length (code_for f)
code_some bytes is f r = let s = size bytes is f r in omega arith

pub code_accepted : (bytes : List ℕ) (is : Items) (f : Formula) → IsRule bytes is f → read_code (code_bytes f) ≡ items (code_for f)
code_accepted bytes is f r = code_read (code_for f) (code_some bytes is f r) (good_code bytes is f r)
