-- The items of rules: their numbers, and the formulas that they make. Document 01: "A rule is a list of items, operands
-- before operators; of two operands the left comes first. Codes (hex): 10 true, 11 false, 12 k flag, 20 not, 21 and, 22
-- or, 30 a b until, 31 a b release, 32 a b eventually, 33 a b globally."
use Rattle.std.specs.Prelude.{cond, List, [], ◌∷◌, ◌++◌, ℕ, eqb}
use Rattle.reading.specs.InTurn.{bytes_of_all}
use Rattle.reading.specs.Numbers.{number_bytes}
use Rattle.rules.specs.Formula.{Formula}
use Rattle.rules.specs.declared.item.Item.{Item}
use Rattle.rules.specs.declared.item.Item.TheVariants.{True, False, Flag, Not, And, Or, Until, Release, Eventually}
use Rattle.rules.specs.declared.item.Item.TheVariants.{Globally}
use Rattle.rules.specs.declared.item.ItemRow.{ItemRow}

-- A row of the table below: code byte, operands, timed (1 or 0), flag, lower bound, upper bound
abbrev pub item_row : ℕ → ℕ → ℕ → ℕ → ℕ → ℕ → ItemRow
item_row code operands timed flag lower upper =
    record { code = code; operands = operands; timed = timed; flag = flag; lower = lower; upper = upper }

-- The items by their numbers; what an item lacks is 0
abbrev pub row_of_item : Item → ItemRow
row_of_item True = item_row 0x10 0 0 0 0 0
row_of_item False = item_row 0x11 0 0 0 0 0
row_of_item (Flag k) = item_row 0x12 0 0 k 0 0
row_of_item Not = item_row 0x20 1 0 0 0 0
row_of_item And = item_row 0x21 2 0 0 0 0
row_of_item Or = item_row 0x22 2 0 0 0 0
row_of_item (Until a b) = item_row 0x30 2 1 0 a b
row_of_item (Release a b) = item_row 0x31 2 1 0 a b
row_of_item (Eventually a b) = item_row 0x32 1 1 0 a b
row_of_item (Globally a b) = item_row 0x33 1 1 0 a b

-- The item of a code byte, with its flag and its bounds; the reader has refused any code byte but these ten
unfoldable pub item_of : ℕ → ℕ → ℕ → ℕ → Item
item_of code flag lower upper =
    cond (eqb code 0x10) True
    (cond (eqb code 0x11) False
    (cond (eqb code 0x12) (Flag flag)
    (cond (eqb code 0x20) Not
    (cond (eqb code 0x21) And
    (cond (eqb code 0x22) Or
    (cond (eqb code 0x30) (Until lower upper)
    (cond (eqb code 0x31) (Release lower upper)
    (cond (eqb code 0x32) (Eventually lower upper) (Globally lower upper)))))))))

-- What an item does to the formulas read so far, the last one first: it takes its operands and puts the formula that it
-- makes in their place
unfoldable pub apply : Item → List Formula → List Formula
apply True st = Formula.True ∷ st
apply False st = Formula.False ∷ st
apply (Flag k) st = Formula.Flag k ∷ st
apply Not [] = []
apply Not (f ∷ st) = Formula.Not f ∷ st
apply And [] = []
apply And (g ∷ []) = []
apply And (g ∷ f ∷ st) = Formula.And f g ∷ st
apply Or [] = []
apply Or (g ∷ []) = []
apply Or (g ∷ f ∷ st) = Formula.Or f g ∷ st
apply (Until a b) [] = []
apply (Until a b) (g ∷ []) = []
apply (Until a b) (g ∷ f ∷ st) = Formula.Until a b f g ∷ st
apply (Release a b) [] = []
apply (Release a b) (g ∷ []) = []
apply (Release a b) (g ∷ f ∷ st) = Formula.Release a b f g ∷ st
apply (Eventually a b) [] = []
apply (Eventually a b) (f ∷ st) = Formula.Eventually a b f ∷ st
apply (Globally a b) [] = []
apply (Globally a b) (f ∷ st) = Formula.Globally a b f ∷ st

-- The bytes of an item: its code byte, and its numbers in the shortest form
unfoldable pub bytes_of_item : Item → List ℕ
bytes_of_item True = 0x10 ∷ []
bytes_of_item False = 0x11 ∷ []
bytes_of_item (Flag k) = 0x12 ∷ number_bytes k
bytes_of_item Not = 0x20 ∷ []
bytes_of_item And = 0x21 ∷ []
bytes_of_item Or = 0x22 ∷ []
bytes_of_item (Until a b) = 0x30 ∷ (number_bytes a ++ number_bytes b)
bytes_of_item (Release a b) = 0x31 ∷ (number_bytes a ++ number_bytes b)
bytes_of_item (Eventually a b) = 0x32 ∷ (number_bytes a ++ number_bytes b)
bytes_of_item (Globally a b) = 0x33 ∷ (number_bytes a ++ number_bytes b)

-- The bytes of a rule: those of its items, in order
abbrev pub rule_bytes : List Item → List ℕ
rule_bytes is = bytes_of_all bytes_of_item is

-- The items of a formula, in order
unfoldable pub postfix : Formula → List Item
postfix Formula.True = True ∷ []
postfix Formula.False = False ∷ []
postfix (Formula.Flag k) = Flag k ∷ []
postfix (Formula.Not f) = postfix f ++ Not ∷ []
postfix (Formula.And f g) = postfix f ++ (postfix g ++ And ∷ [])
postfix (Formula.Or f g) = postfix f ++ (postfix g ++ Or ∷ [])
postfix (Formula.Until a b f g) = postfix f ++ (postfix g ++ Until a b ∷ [])
postfix (Formula.Release a b f g) = postfix f ++ (postfix g ++ Release a b ∷ [])
postfix (Formula.Eventually a b f) = postfix f ++ Eventually a b ∷ []
postfix (Formula.Globally a b f) = postfix f ++ Globally a b ∷ []
