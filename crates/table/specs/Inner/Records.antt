-- The table's records. Document 01: "A record takes 80 bytes". It keeps the registers of a state, two bytes for each
-- counter, lowest first, and a bit for each delay bit; the link to the record that it came from, as its number and one
-- more, or 0; the frame byte in front; and, for the index, the record before it in its bucket and the last record of a
-- bucket. Contracts of inner functions cite it; `search` says nothing of it.
use Rattle.std.specs.Prelude.{◌≡◌, Bool, false, cond, List, ℕ, zero, suc, ◌+◌, ◌*◌, ◌-◌, ◌/◌, ◌%◌, ◌≤◌, ◌<◌, ltb}
use Rattle.std.specs.Prelude.{length, get_or, take, drop}
use Rattle.std.specs.Prelude.{Option, Some, None, IfSome}
use Rattle.std.specs.Int.{from_bool}
use Rattle.ground.specs.Buffers.{byte_values}
use Rattle.ground.specs.Frames.{has_flag}
use Rattle.ground.specs.Limits.{limits}
use Rattle.sequencer.specs.declared.registers.Registers.{Registers}

-- How many bytes a counter takes
abbrev pub counter_size : ℕ
counter_size = 2

-- How many bits a byte has
abbrev pub byte_bits : ℕ
byte_bits = 8

-- The bytes of the counters
abbrev pub counter_bytes : ℕ
counter_bytes = counter_size * limits.counters

-- The bytes of all registers
abbrev pub key_bytes : ℕ
key_bytes = counter_bytes + limits.delays / byte_bits

-- The number of so many bits, the first lowest
unfoldable pub bits_value : ℕ → List Bool → ℕ
bits_value zero bits = 0
bits_value (suc n) bits = from_bool (get_or bits 0 false) + 2 * bits_value n (drop 1 bits)

-- One of a counter's two bytes
abbrev pub half_of : ℕ → ℕ → ℕ
half_of counter zero = counter % byte_values
half_of counter (suc n) = counter / byte_values

-- The bytes of registers, by their places
unfoldable pub key_byte : Registers → ℕ → ℕ
key_byte r j =
    cond (ltb j counter_bytes)
    (half_of (get_or r.counters (j / counter_size) 0) (j % counter_size))
    (bits_value byte_bits (drop (byte_bits * (j - counter_bytes)) r.delays))

-- Bytes by their places
abbrev pub byte_at : List ℕ → ℕ → ℕ
byte_at bytes j = get_or bytes j 0

-- Registers: so many counters and so many delay bits
pub record Whole (r : Registers) : Type 0 where
  pub counters : length r.counters ≡ limits.counters
  pub delays : length r.delays ≡ limits.delays

-- Bytes that keep registers
pub record Keeps (bytes : List ℕ) (r : Registers) : Type 0 where
  pub whole : Whole r
  pub own : (j : ℕ) → j < key_bytes → get_or bytes j 0 ≡ key_byte r j

-- The registers that bytes keep, if they keep any
abbrev pub KeptBy : List ℕ → Registers → Type 0
KeptBy bytes r = (kept : Registers) → Keeps bytes kept → r ≡ kept

-- Bytes that have those of a key in front
abbrev pub HasKey : List ℕ → List ℕ → Type 0
HasKey key bytes = (j : ℕ) → j < key_bytes → get_or bytes j 0 ≡ get_or key j 0

-- A counter that bytes keep, by its number: its low byte, and its high byte so many times as a byte has values
abbrev pub counter_in : List ℕ → ℕ → ℕ
counter_in bytes i = get_or bytes (counter_size * i) 0 + get_or bytes (counter_size * i + 1) 0 * byte_values

-- A delay bit that bytes keep, by its number
abbrev pub delay_in : List ℕ → ℕ → Bool
delay_in bytes i = has_flag (i % byte_bits) (get_or bytes (counter_bytes + i / byte_bits) 0)

-- The first counters that bytes keep
pub record CountersOf (bytes counters : List ℕ) (n : ℕ) : Type 0 where
  pub all : length counters ≡ limits.counters
  pub own : (i : ℕ) → i < n → get_or counters i 0 ≡ counter_in bytes i

-- The first delay bits that bytes keep
pub record DelaysOf (bytes : List ℕ) (delays : List Bool) (n : ℕ) : Type 0 where
  pub all : length delays ≡ limits.delays
  pub own : (i : ℕ) → i < n → get_or delays i false ≡ delay_in bytes i

-- All registers that bytes keep
pub record RegistersIn (bytes : List ℕ) (r : Registers) : Type 0 where
  pub counters : CountersOf bytes r.counters limits.counters
  pub delays : DelaysOf bytes r.delays limits.delays

-- How many bytes a link takes
abbrev pub link_size : ℕ
link_size = 3

-- The greatest number of three bytes
abbrev pub most_link : ℕ
most_link = byte_values * byte_values * byte_values - 1

-- A number of three bytes
abbrev pub stored_number : ℕ → List ℕ → ℕ
stored_number at bytes =
    get_or bytes at 0 + get_or bytes (at + 1) 0 * byte_values + get_or bytes (at + 2) 0 * (byte_values * byte_values)

-- The record that a link's number tells: the one of the number before it, or none if it is 0
abbrev pub link_of : ℕ → Option ℕ
link_of zero = None
link_of (suc n) = Some n

-- A link of a record
abbrev pub link_at : ℕ → List ℕ → Option ℕ
link_at at bytes = link_of (stored_number at bytes)

-- A link that fits its three bytes
abbrev pub LinkFits : Option ℕ → Type 0
LinkFits link = IfSome link (λ n. n < most_link)

-- Where the link to the record that it came from stands
abbrev pub link_place : ℕ
link_place = key_bytes

-- Where the frame byte stands
abbrev pub frame_place : ℕ
frame_place = link_place + link_size

-- Where the link to the record before it in its bucket stands
abbrev pub chain_place : ℕ
chain_place = frame_place + 1

-- Where the link to the last record of the bucket that has its number stands
abbrev pub head_place : ℕ
head_place = chain_place + link_size

-- The record that a record came from, if any
abbrev pub link_in : List ℕ → Option ℕ
link_in = link_at link_place

-- Bytes of which three are a link now, and the others are as before
pub record LinkWritten (at : ℕ) (link : Option ℕ) (before after : List ℕ) : Type 0 where
  pub own : link_at at after ≡ link
  pub below : (j : ℕ) → j < at → get_or after j 0 ≡ get_or before j 0
  pub behind : (j : ℕ) → at + link_size ≤ j → get_or after j 0 ≡ get_or before j 0
  pub same : length after ≡ length before

-- The frame byte of a record
abbrev pub frame_in : List ℕ → ℕ
frame_in bytes = get_or bytes frame_place 0

-- What a record has
pub record Has (bytes : List ℕ) (r : Registers) (link : Option ℕ) (frame : ℕ) : Type 0 where
  pub keeps : Keeps bytes r
  pub own_link : link_in bytes ≡ link
  pub own_frame : frame_in bytes ≡ frame

-- A record that is written: the bytes of its key, its link, its frame byte, the record before it in its bucket, and the
-- bytes behind as before
pub record Written (key : List ℕ) (link : Option ℕ) (frame : ℕ) (chain : Option ℕ)
    (before after : List ℕ) : Type 0 where
  pub own_key : HasKey key after
  pub own_link : link_in after ≡ link
  pub own_frame : frame_in after ≡ frame
  pub own_chain : link_at chain_place after ≡ chain
  pub behind : (j : ℕ) → head_place ≤ j → get_or after j 0 ≡ get_or before j 0
  pub same : length after ≡ length before

-- Two records with the same bytes in front of their part of the index: they have the same registers, link and frame
-- byte
abbrev pub SameState : List ℕ → List ℕ → Type 0
SameState before after = (j : ℕ) → j < chain_place → get_or after j 0 ≡ get_or before j 0

-- A record of a table, by its number
abbrev pub record_at : List ℕ → ℕ → List ℕ
record_at table n = take limits.record_bytes (drop (n * limits.record_bytes) table)

-- How many records a table has that is exactly its records
abbrev pub room_in : List ℕ → ℕ
room_in table = length table / limits.record_bytes
