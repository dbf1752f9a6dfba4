-- Items as bytes: a code byte and its numbers. Document 01: "Codes (hex): 10 true, 11 false, 12 k flag, 20 not, 21 and,
-- 22 or, 30 a b until, 31 a b release, 32 a b eventually, 33 a b globally", for code "01 ONE, 02 k FLAG, 03 i j NAND,
-- 04 i j w REACH, 05 i d LATER", and "Items are judged in turn: 2, then 3 or 4 number by number". "One reader walks
-- rules and code alike and always knows its place."
use Rattle.std.specs.Prelude.{◌≡◌, cond, List, [], ◌∷◌, ◌++◌, ℕ, zero, suc, ◌+◌, eqb, leb, get_or, take, drop}
use Rattle.std.specs.Prelude.{Option, None, Some, Result, Ok, Err}
use Rattle.reading.specs.Numbers.{number_at, fault_at, number_bytes}
use Rattle.reading.specs.declared.number.Number.{Number}
use Rattle.reading.specs.declared.number.Fault.{Fault}
use Rattle.reading.specs.declared.item.Table.{Table}
use Rattle.reading.specs.declared.item.Read.{Read}
use Rattle.reading.specs.declared.reader.Reader.{Reader}
use Rattle.ground.specs.declared.refusal.Refusal.{Refusal}

-- A row of a table of codes: the code byte, and how many numbers follow it
pub record CodeRow : Type 0 where
  pub code : ℕ
  pub numbers : ℕ

-- A row, written short
abbrev pub code_row : ℕ → ℕ → CodeRow
code_row code numbers = record { code = code; numbers = numbers }

-- The codes of rules
unfoldable pub rule_codes : List CodeRow
rule_codes =
    code_row 0x10 0 ∷ code_row 0x11 0 ∷ code_row 0x12 1
    ∷ code_row 0x20 0 ∷ code_row 0x21 0 ∷ code_row 0x22 0
    ∷ code_row 0x30 2 ∷ code_row 0x31 2 ∷ code_row 0x32 2 ∷ code_row 0x33 2 ∷ []

-- The codes of instructions
unfoldable pub instruction_codes : List CodeRow
instruction_codes = code_row 0x01 0 ∷ code_row 0x02 1 ∷ code_row 0x03 2 ∷ code_row 0x04 3 ∷ code_row 0x05 2 ∷ []

-- How many numbers an item has at most
abbrev pub most_numbers : ℕ
most_numbers = 3

-- What stands for the number of numbers where a code byte is unknown: more than any item has
abbrev pub no_code : ℕ
no_code = most_numbers + 1

-- How many numbers follow a code byte
unfoldable pub look : ℕ → List CodeRow → ℕ
look code [] = no_code
look code (row ∷ rows) = cond (eqb code row.code) row.numbers (look code rows)

-- The same by table: rules and code have separate ones
abbrev pub numbers_of : Table → ℕ → ℕ
numbers_of Table.Rule code = look code rule_codes
numbers_of Table.Code code = look code instruction_codes

-- So many numbers, if the code byte is known
abbrev pub if_known : ℕ → Option ℕ
if_known numbers = cond (leb no_code numbers) None (Some numbers)

-- What stands at a place: an item and the place behind it, the end, or a refusal
abbrev pub AtPlace : Type 0
AtPlace = Result (Option Read) Refusal

-- An item that is read: its code byte, its three numbers, and the place behind it
abbrev pub item_read : ℕ → ℕ → ℕ → ℕ → ℕ → AtPlace
item_read code i j k next = Ok (Some (record { code = code; first = i; second = j; third = k; next = next }))

-- A number of the item at `at`: what follows goes on with its value and the place behind it, or the item is refused
abbrev pub with_number : ℕ → Result Number Fault → (ℕ → ℕ → AtPlace) → AtPlace
with_number at (Ok number) more = more number.value number.next
with_number at (Err fault) more = Err (fault_at at fault)

-- The item at `at` from the place `next` on, where so many numbers are still to come after those read: they are read in
-- turn, and those that an item lacks are 0
unfoldable pub numbers_from : ℕ → List ℕ → ℕ → ℕ → List ℕ → ℕ → AtPlace
numbers_from zero bytes at code read next = item_read code (get_or read 0 0) (get_or read 1 0) (get_or read 2 0) next
numbers_from (suc more) bytes at code read next =
    with_number at (number_at bytes next) λ n behind. numbers_from more bytes at code (read ++ n ∷ []) behind

-- An item whose bytes, from place `at` on, are given: its first byte is its code
abbrev pub code_first : Table → List ℕ → ℕ → List ℕ → AtPlace
code_first table bytes at [] = Ok None
code_first table bytes at (code ∷ rest) =
    cond (leb no_code (numbers_of table code)) (Err (Refusal.UnknownCode at))
    (numbers_from (numbers_of table code) bytes at code [] (at + 1))

-- The item at a place of some bytes, by the table of codes
unfoldable pub item_at : Table → List ℕ → ℕ → AtPlace
item_at table bytes at = code_first table bytes at (drop at bytes)

-- A reader that stands in these bytes, by this table
pub record Over (table : Table) (bytes : List ℕ) (reader : Reader) : Type 0 where
  pub own_table : reader.table ≡ table
  pub own_bytes : reader.bytes.now ≡ bytes

-- The bytes of some numbers, each in its shortest form
unfoldable pub numbers_bytes : List ℕ → List ℕ
numbers_bytes [] = []
numbers_bytes (n ∷ ns) = number_bytes n ++ numbers_bytes ns

-- The bytes of an item: its code byte, and as many of the three numbers as it has
unfoldable pub item_bytes : Table → ℕ → ℕ → ℕ → ℕ → List ℕ
item_bytes table code i j k = code ∷ numbers_bytes (take (numbers_of table code) (i ∷ j ∷ k ∷ []))
