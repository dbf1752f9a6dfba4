-- The items of a rule or of code, one after the other. Document 01: "Items are judged in turn: 2, then 3 or 4 number by
-- number, then 5, 6, 7, 8 (in code 5, 10, 11, 12)", and "One reader walks rules and code alike". The first refusal
-- decides; no bytes at all are 1.
use Rattle.std.specs.Prelude.{List, [], ◌∷◌, ◌++◌, ℕ, zero, suc, length}
use Rattle.std.specs.Prelude.{None, Some, Ok, Err}
use Rattle.reading.specs.Items.{AtPlace, item_at}
use Rattle.reading.specs.declared.item.Table.{Table}
use Rattle.ground.specs.declared.refusal.Refusal.{Refusal}

-- What becomes of an item once it is read
pub data Outcome : Type 0 where
  fine : Outcome
  bad : Refusal → Outcome

-- What rules and code differ in: the table of code bytes, the item that a code byte and its numbers make, and how the
-- item at a place is checked after the items before it
pub record Kind (A : Type 0) : Type 0 where
  pub table : Table
  pub make : ℕ → ℕ → ℕ → ℕ → A
  pub check : List A → ℕ → A → Outcome

-- What all the bytes give: the items, or the first refusal
pub data AllRead (A : Type 0) : Type 0 where
  items : List A → AllRead A
  refused : Refusal → AllRead A

-- After what stands at a place: the end, a refusal, or more with the item and the place behind it
abbrev pub after_read : {A : Type 0} → AtPlace → AllRead A → (ℕ → ℕ → ℕ → ℕ → ℕ → AllRead A) → AllRead A
after_read (Ok (Some read)) end more = more read.code read.first read.second read.third read.next
after_read (Ok None) end more = end
after_read (Err r) end more = refused r

-- After an item is checked: more, or its refusal
abbrev pub after_checked : {A : Type 0} → Outcome → AllRead A → AllRead A
after_checked fine more = more
after_checked (bad r) more = refused r

-- The bytes from a place on, after items that are read. Each turn reads an item, and as an item has a byte at least, as
-- many turns as there are bytes suffice
unfoldable pub in_turn : {A : Type 0} → Kind A → ℕ → List ℕ → ℕ → List A → AllRead A
in_turn kind zero bytes at is = items is
in_turn kind (suc turns) bytes at is =
    after_read (item_at kind.table bytes at) (items is) λ code i j k next.
    after_checked (kind.check is at (kind.make code i j k))
    (in_turn kind turns bytes next (is ++ kind.make code i j k ∷ []))

-- All the bytes: none is 1
unfoldable pub read_all : {A : Type 0} → Kind A → List ℕ → AllRead A
read_all kind [] = refused Refusal.Empty
read_all kind (b ∷ bytes) = in_turn kind (length (b ∷ bytes)) (b ∷ bytes) 0 []

-- The bytes of items, one after the other, where those of each item are given
unfoldable pub bytes_of_all : {A : Type 0} → (A → List ℕ) → List A → List ℕ
bytes_of_all own [] = []
bytes_of_all own (i ∷ is) = own i ++ bytes_of_all own is
