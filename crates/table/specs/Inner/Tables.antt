-- The table as its users meet it: a look-up, and a store. A table is exactly its records here. The search says nothing
-- of it.
use Rattle.std.specs.Prelude.{◌≡◌, Option, IfSome, List, ℕ, ◌+◌, ◌*◌, ◌≤◌, ◌<◌, length}
use Rattle.ground.specs.Limits.{limits}
use Rattle.sequencer.specs.declared.registers.Registers.{Registers}
use Rattle.table.specs.Inner.Chains.{Last}
use Rattle.table.specs.Inner.Index.{Indexed}
use Rattle.table.specs.Inner.Records.{Keeps, Has, SameState, record_at, room_in}

-- A table that is exactly its records, no more than 01 allows
pub record HasRoom (table : List ℕ) : Type 0 where
  pub whole : length table ≡ room_in table * limits.record_bytes
  pub most : room_in table ≤ limits.records

-- A table whose first records are stored and in its index
pub record Filled (table : List ℕ) (stored : ℕ) : Type 0 where
  pub holds : HasRoom table
  pub some : 1 ≤ room_in table
  pub inside : stored ≤ room_in table
  pub indexed : Indexed table stored

-- What a look-up among the first records answers: the number of the last one that keeps these registers, or none, if no
-- one does
abbrev pub Looks : List ℕ → ℕ → Registers → Option ℕ → Type 0
Looks table stored r = Last (λ n. Keeps (record_at table n) r) stored

-- There is a record for a state, and one that it came from, if any
pub record CanStore (table : List ℕ) (n : ℕ) (link : Option ℕ) : Type 0 where
  pub holds : HasRoom table
  pub inside : n < room_in table
  pub link_inside : IfSome link (λ m. m < limits.records)

-- What storing leaves: the record of a number is written, those before it keep what they had, and if they were in the
-- index, so are they and the new one
pub record Stores (before after : List ℕ) (n : ℕ) (r : Registers) (link : Option ℕ) (frame : ℕ) : Type 0 where
  pub written : Has (record_at after n) r link frame
  pub others : (m : ℕ) → m < n → SameState (record_at before m) (record_at after m)
  pub indexed : Indexed before n → Indexed after (n + 1)
  pub same : length after ≡ length before
