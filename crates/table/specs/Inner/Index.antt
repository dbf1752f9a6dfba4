-- The index of the table: chains that go down, one for each bucket, over the buckets into which keys fall. The proofs
-- hold for any rule by which a key has a bucket; this one is made so that every bit of a key tells in its bucket.
-- Contracts of inner functions cite it; `search` says nothing of it.
use Rattle.std.specs.Prelude.{Option, List, ℕ, zero, suc, ◌+◌, ◌*◌, ◌/◌, ◌%◌, ◌^◌, ◌-◌}
use Rattle.ground.specs.Buffers.{byte_values}
use Rattle.table.specs.Inner.Chains.{Chained}
use Rattle.table.specs.Inner.Records.{byte_bits, key_bytes, byte_at, link_at, chain_place}
use Rattle.table.specs.Inner.Records.{head_place, record_at, room_in}

-- How many bytes are stirred into a hash at once
abbrev pub part_bytes : ℕ
part_bytes = 4

-- How many bits a hash has
abbrev pub hash_bits : ℕ
hash_bits = byte_bits * part_bytes

-- How many values a hash has
abbrev pub hashes : ℕ
hashes = 2 ^ hash_bits

-- What is multiplied by for each part of a key
abbrev pub factor : ℕ
factor = 1640531527

-- By how many bits a hash is turned
abbrev pub turn_bits : ℕ
turn_bits = 17

-- A hash turned by so many of its bits, so that its highest bits tell in the next product
abbrev pub turned : ℕ → ℕ
turned hash = hash / 2 ^ turn_bits + hash % 2 ^ turn_bits * 2 ^ (hash_bits - turn_bits)

-- A hash with one part more in it
unfoldable pub stirred : ℕ → ℕ → ℕ
stirred hash part = (turned hash + part) * factor % hashes

-- So many bytes as a number, the first lowest
unfoldable pub value_of : ℕ → (ℕ → ℕ) → ℕ → ℕ
value_of zero byte at = 0
value_of (suc n) byte at = byte at + byte_values * value_of n byte (at + 1)

-- A part of a row of bytes, by its number
abbrev pub part_of : (ℕ → ℕ) → ℕ → ℕ
part_of byte i = value_of part_bytes byte (part_bytes * i)

-- The hash of so many parts
unfoldable pub hashed : ℕ → (ℕ → ℕ) → ℕ
hashed zero part = 0
hashed (suc n) part = stirred (hashed n part) (part n)

-- The bucket of a key, by its bytes, of so many buckets: the highest bits of the hash of its parts
unfoldable pub bucket_of : ℕ → (ℕ → ℕ) → ℕ
bucket_of buckets byte = hashed (key_bytes / part_bytes) (part_of byte) * buckets / hashes

-- The bucket of a record
abbrev pub bucket_at : ℕ → List ℕ → ℕ → ℕ
bucket_at buckets table n = bucket_of buckets (byte_at (record_at table n))

-- The last record of the bucket that has a number, if any
abbrev pub head_at : List ℕ → ℕ → Option ℕ
head_at table n = link_at head_place (record_at table n)

-- The record before a record in its bucket, if any
abbrev pub chain_at : List ℕ → ℕ → Option ℕ
chain_at table n = link_at chain_place (record_at table n)

-- A table of which so many records are in the index, which has so many buckets
abbrev pub IndexedBy : ℕ → List ℕ → ℕ → Type 0
IndexedBy buckets table stored =
    Chained (bucket_at buckets table) (head_at table) (chain_at table) buckets stored

-- A table whose first records are in its index: it has as many buckets as records
abbrev pub Indexed : List ℕ → ℕ → Type 0
Indexed table stored = IndexedBy (room_in table) table stored
