-- Emitted code. Document 01, "The sequencer": "Emitted code, for each item in order after its operands (N means NAND of
-- a bit with itself)", and its table: "true; flag: ONE; FLAG. false: ONE, N. not: N. and: NAND, N. or: N left, N right,
-- NAND of the two. until: REACH left right b−a, LATER a. release: N left, N right, REACH of the two b−a, LATER a, N.
-- eventually: ONE, REACH that and the operand b−a, LATER a. globally: ONE, N operand, REACH of the two b−a, LATER a, N.
-- LATER is left out when a = 0."
use Rattle.std.specs.Prelude.{List, [], ◌∷◌, ◌++◌, ℕ, zero, suc, ◌+◌, ◌-◌, length}
use Rattle.reading.specs.InTurn.{bytes_of_all}
use Rattle.rules.specs.Formula.{Formula}
use Rattle.rules.specs.declared.item.Item.{Item}
use Rattle.code.specs.declared.instruction.Instruction.{Instruction}
use Rattle.code.specs.declared.instruction.Instruction.TheVariants.{One, Flag, Nand, Reach, Later}
use Rattle.code.specs.Code.{Code, bytes_of_instruction}

-- N: NAND of a bit with itself
abbrev pub N : ℕ → Instruction
N i = Nand i i

-- Code whose first instruction has number n, and N of its last bit
abbrev pub then_n : ℕ → Code → Code
then_n n code = code ++ N (n + length code - 1) ∷ []

-- LATER a of a bit, which is left out when a = 0
unfoldable pub later_by : ℕ → ℕ → Code
later_by i zero = []
later_by i (suc a) = Later i (suc a) ∷ []

-- REACH b−a of bits i and j, which is instruction n, and LATER a of it
unfoldable pub timed : ℕ → ℕ → ℕ → ℕ → ℕ → Code
timed n i j a b = Reach i j (b - a) ∷ later_by n a

-- The same, inverted
abbrev pub not_timed : ℕ → ℕ → ℕ → ℕ → ℕ → Code
not_timed n i j a b = then_n n (timed n i j a b)

-- The table: the instructions of an item, the first of which has number n. left and right are the numbers of its
-- operands' bits, and right that of a lone operand's
unfoldable pub item_code : ℕ → Item → ℕ → ℕ → Code
item_code n Item.True left right = One ∷ []
item_code n (Item.Flag k) left right = Flag k ∷ []
item_code n Item.False left right = then_n n (One ∷ [])
item_code n Item.Not left right = N right ∷ []
item_code n Item.And left right = then_n n (Nand left right ∷ [])
item_code n Item.Or left right = N left ∷ N right ∷ Nand n (n + 1) ∷ []
item_code n (Item.Until a b) left right = timed n left right a b
item_code n (Item.Release a b) left right = N left ∷ N right ∷ not_timed (n + 2) n (n + 1) a b
item_code n (Item.Eventually a b) left right = One ∷ timed (n + 1) n right a b
item_code n (Item.Globally a b) left right = One ∷ N right ∷ not_timed (n + 2) n (n + 1) a b

-- The number of the last instruction
abbrev pub last : Code → ℕ
last c = length c - 1

-- Code so far, with the instructions of an item behind it
abbrev pub behind : Code → Item → ℕ → ℕ → Code
behind c item left right = c ++ item_code (length c) item left right

-- The same of an item without operands
abbrev pub alone : Code → Item → Code
alone c item = behind c item 0 0

-- The same of an item whose operand's code ends d
abbrev pub after_one : Code → Item → Code
after_one d item = behind d item 0 (last d)

-- The same of an item whose left operand's code ends d, and whose right operand's ends e: d with more behind it
abbrev pub after_two : Code → Code → Item → Code
after_two d e item = behind e item (last d) (last e)

-- Code so far, with that of a formula behind it: its operands', and then its own item's
unfoldable pub translate : Code → Formula → Code
translate c Formula.True = alone c Item.True
translate c Formula.False = alone c Item.False
translate c (Formula.Flag k) = alone c (Item.Flag k)
translate c (Formula.Not f) = after_one (translate c f) Item.Not
translate c (Formula.And f g) = let d = translate c f in after_two d (translate d g) Item.And
translate c (Formula.Or f g) = let d = translate c f in after_two d (translate d g) Item.Or
translate c (Formula.Until a b f g) = let d = translate c f in after_two d (translate d g) (Item.Until a b)
translate c (Formula.Release a b f g) = let d = translate c f in after_two d (translate d g) (Item.Release a b)
translate c (Formula.Eventually a b f) = after_one (translate c f) (Item.Eventually a b)
translate c (Formula.Globally a b f) = after_one (translate c f) (Item.Globally a b)

-- The code of a formula
abbrev pub code_for : Formula → Code
code_for f = translate [] f

-- Code as bytes, every number in its shortest form
abbrev pub bytes_of_code : Code → List ℕ
bytes_of_code code = bytes_of_all bytes_of_instruction code

-- The bytes of the code of a formula
abbrev pub code_bytes : Formula → List ℕ
code_bytes f = bytes_of_code (code_for f)
